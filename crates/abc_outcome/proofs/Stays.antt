-- What an answer leaves that keeps nothing: all as it was.
use Rattle.std.proofs.Common.{◌≡◌, ℕ, List, refl, sym, ap, subst, arith}
use Rattle.std.specs.Prelude.{IsTrue, Result, Ok, Err}
use Rattle.abc_num.specs.declared.lines.RawLine.{RawLine}
use Rattle.abc_outside.specs.Outside.{Outside, KeepsButStore}
use Rattle.abc_outside.proofs.Leaves.{none_yet}
use Rattle.abc_store.specs.Commit.{Holds}
use Rattle.abc_store.specs.View.{View, work_of}
use Rattle.abc_outcome.specs.declared.answering.Answer.{Answer}
use Rattle.abc_outcome.specs.declared.answering.AnswerFault.{AnswerFault}
use Rattle.abc_outcome.specs.declared.answering.AnswerFault.TheVariants.{Memory}
use Rattle.abc_outcome.specs.Outcome.{Outcome, ends_with}
use Rattle.abc_outcome.specs.Answers.{told}
use Rattle.abc_outcome.specs.Reply.{said}
use Rattle.abc_outcome.specs.inner.Settling.{Settles}
use Rattle.abc_outcome.specs.inner.Steps.{Refuses}

pub as_before : (now : Outside) → KeepsButStore now now
as_before now = record { chosen = refl; taken = refl; left = refl; said = refl; asked = refl; input_faults = refl; sink_faults = refl; store_faults = omega arith }

module _ {H : Type 0} (tells_image : Type 0) (now : H → Outside) (clock : H → ℕ) (stopped : H → ℕ → List ℕ → List ℕ → Type 0) (store : View) (host : H) where
  -- want of memory
  pub starved : (left : List RawLine) (out : Outcome) → Settles tells_image now clock stopped store store host host (Err Memory) left out
  starved left out = record {
    outcome = tt;
    holds = λ told. tt;
    sound = tt;
    faultless = tt;
    fault = λ e. absurd cc;
    unsound = λ e. absurd cc;
    memory = λ e. refl;
    same = λ e. refl;
    not_input = λ e. absurd cc;
    not_long = λ e. absurd cc;
    bounds = refl;
    rest = as_before (now host);
    stops = λ told quiet. none_yet clock stopped host _;
    quiet = λ told quiet. tt;
  }

  pub starved_so : (left : List RawLine) (out : Outcome) (result : Result Answer AnswerFault) → result ≡ Err Memory → Settles tells_image now clock stopped store store host host result left out
  starved_so left out result is = subst (λ (r : Result Answer AnswerFault). Settles tells_image now clock stopped store store host host r left out) (sym is) (starved left out)

  -- a reply line alone, behind what the item wrote
  pub refused : (left : List RawLine) (output line : List ℕ) (result : Result Answer AnswerFault) → IsTrue store.sound → (tells_image → Holds (now host).image (work_of store))
      → Refuses (said output line) result → Settles tells_image now clock stopped store store host host result left (ends_with (work_of store) left output line)
  refused left output line (Ok answer) sound holds is = record {
    outcome = ap (λ (a : Answer). told a (work_of store) left) (sym is);
    holds = holds;
    sound = sound;
    faultless = refl;
    fault = λ e. absurd cc;
    unsound = λ e. absurd cc;
    memory = λ e. refl;
    same = λ e. refl;
    not_input = λ e. absurd cc;
    not_long = λ e. absurd cc;
    bounds = refl;
    rest = as_before (now host);
    stops = λ told quiet. none_yet clock stopped host _;
    quiet = λ told quiet. quiet;
  }
  refused left output line (Err fault) sound holds is = starved_so left (ends_with (work_of store) left output line) (Err fault) (ap Err is)
