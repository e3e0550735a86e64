-- What keeps a command from running.
use Rattle.std.proofs.Common.{◌≡◌, ℕ, false, List, [], Option, None, Some, Result, Ok, Err, refl, ap}
use Rattle.std.specs.Prelude.{IfOk}
use Rattle.abc_tree.specs.declared.commands.Command.{Command}
use Rattle.abc_store.specs.Commit.{Work}
use Rattle.abc_outcome.specs.declared.answering.Answer.{Answer}
use Rattle.abc_outcome.specs.declared.answering.AnswerFault.{AnswerFault}
use Rattle.abc_outcome.specs.Missing.{line_to}
use Rattle.abc_outcome.specs.Outcome.{Behind, Outcome, ends_with, unless_missing, unless_unfit}
use Rattle.abc_outcome.specs.Reply.{missing_line}
use Rattle.abc_outcome.specs.inner.Steps.{Hinders, IsHindered, if_missing, if_unfit, refusing}

-- what keeps it ends neither the session nor more than want of memory does
pub hinders_of : (line : List ℕ) (r : Result (Option Answer) AnswerFault) → IsHindered (Some line) r → Hinders r
hinders_of line (Ok None) is = absurd is
hinders_of line (Ok (Some answer)) is = ap (λ (a : Answer). a.quit) is
hinders_of line (Err fault) is = is

-- where an answer is told, nothing holds only because none is
pub none_told : (P : Type 0) (r : Result (Option Answer) AnswerFault) → IfOk r (λ found. found ≡ None → ⊥) → IfOk r (λ found. found ≡ None → P)
none_told P (Ok found) some = λ none. absurd (some none)
none_told P (Err fault) some = tt

pub always : {A E : Type 0} (P : A → Type 0) (r : Result A E) → ((x : A) → P x) → IfOk r P
always P (Ok x) p = p x
always P (Err e) p = tt

-- an answer that doesn't quit is its reply alone
pub refusing_of : (answer : Answer) → answer.quit ≡ false → answer ≡ refusing answer.reply
refusing_of answer is = ap (λ b. record { reply = answer.reply; quit = b }) is

module _ (work : Work) (k : ℕ) (c : Command) where
  -- nothing does
  pub none_hinders : (missing : Option (List ℕ)) (line : Option ℕ) → IsHindered (if_missing work.kept.units k c missing (if_unfit k line)) (Ok None) → (missing ≡ None) × (line ≡ None)
  none_hinders None None is = (refl, refl)
  none_hinders None (Some n) is = absurd is
  none_hinders (Some t) line is = absurd is

  -- something does: then the item comes to its reply line
  pub some_hinders : (missing : Option (List ℕ)) (line : Option ℕ) (answer : Answer) → IsHindered (if_missing work.kept.units k c missing (if_unfit k line)) (Ok (Some answer))
      → (reply : List ℕ) × (answer ≡ refusing reply) × ((behind : Behind) (run : Outcome) → unless_missing k work behind c missing (unless_unfit k work behind line run) ≡ ends_with work behind.lines [] reply)
  some_hinders None None answer is = absurd is
  some_hinders None (Some n) answer is = (_, is, λ behind run. refl)
  some_hinders (Some t) line answer is = (missing_line k (line_to work.kept.units t c) t, is, λ behind run. refl)
