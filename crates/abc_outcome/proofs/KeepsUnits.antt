-- A command leaves the units as they are.
use Rattle.std.proofs.Common.{◌≡◌, ◌⊎◌, inl, inr, ℕ, Bool, true, false, List, [], ◌∷◌, length, nat_lt, Result, Ok, Err, if◌then◌else◌, refl, sym, subst}
use Rattle.std.specs.Prelude.{IfOk, OnOk, IsErrOf, Option}
use Rattle.std.specs.List.{list_all}
use Rattle.abc_num.specs.declared.limits.TheConstants.{MOST_TARGETS, MOST_RECORD_BYTES}
use Rattle.abc_num.specs.declared.lines.RawLine.{RawLine}
use Rattle.abc_tree.specs.declared.commands.Unit.{Unit as Routine}
use Rattle.abc_frames.specs.Maps.{Targets}
use Rattle.abc_meaning.specs.State.{Stop, faulty, wrong}
use Rattle.abc_meaning.specs.State as run
use Rattle.abc_meaning.specs.Ran.{Outcome as End, done, quit, stopped}
use Rattle.abc_journal.specs.declared.layout.Bounds.{Bounds}
use Rattle.abc_journal.specs.declared.layout.Layout.{Layout}
use Rattle.abc_journal.specs.Commit.{Full}
use Rattle.abc_turns.specs.Session.{came, wants}
use Rattle.abc_record.specs.declared.change.Change.{Change}
use Rattle.abc_record.specs.Spelling.{spelled}
use Rattle.abc_check.specs.declared.checker.Checker.{Checker}
use Rattle.abc_store.specs.Workspace.{Workspace, changes_between, with_targets}
use Rattle.abc_store.specs.Commit.{Work, Refusal, too_large, store_full, kept_in, stored}
use Rattle.abc_store.specs.View.{View}
use Rattle.abc_outcome.specs.declared.answering.Answer.{Answer}
use Rattle.abc_outcome.specs.declared.answering.AnswerFault.{AnswerFault}
use Rattle.abc_outcome.specs.declared.answering.AnswerFault.TheVariants as stops
use Rattle.abc_outcome.specs.Answers.{told}
use Rattle.abc_outcome.specs.Checks.{IsUpToDate}
use Rattle.abc_outcome.specs.Outcome.{Outcome, Ending, on_stored, stored_if_spelled, kept_outcome, on_stop, on_end}
use Rattle.abc_outcome.specs.Spelled.{has_spelling}

-- the work that is left has the same units
abbrev KeepsUnits : Work → Outcome → Type 0
KeepsUnits work (came reply later left quits) = later.kept.units ≡ work.kept.units
KeepsUnits work wants = Unit {0}

module _ (bounds : Bounds) (k : ℕ) (work : Work) where
  abbrev UnitsStay : Result Work Refusal → Type 0
  UnitsStay found = IfOk found (λ later. later.kept.units ≡ work.kept.units)

  one_stays : (b : Bool) (x y : Result Work Refusal) → UnitsStay x → UnitsStay y → UnitsStay (if b then x else y)
  one_stays true x y p q = p
  one_stays false x y p q = q

  stay_in : (later : Workspace) (found : Result Layout Full) → later.units ≡ work.kept.units → UnitsStay (kept_in later found)
  stay_in later (Ok layout) same = same
  stay_in later (Err full) same = tt

  stay_stored : (changes : List Change) (later : Workspace) → later.units ≡ work.kept.units → UnitsStay (stored bounds work changes later)
  stay_stored [] later same = refl
  stay_stored (change ∷ changes) later same = one_stays (nat_lt MOST_RECORD_BYTES (length (spelled (change ∷ changes)))) _ _ tt (stay_in later _ same)

  stored_keeps : (ending : Ending) (found : Result Work Refusal) → UnitsStay found → KeepsUnits work (on_stored k work ending found)
  stored_keeps ending (Ok later) same = same
  stored_keeps ending (Err (too_large bytes)) same = refl
  stored_keeps ending (Err (store_full full)) same = refl

  one_keeps : (b : Bool) (x y : Outcome) → KeepsUnits work x → KeepsUnits work y → KeepsUnits work (if b then x else y)
  one_keeps true x y p q = p
  one_keeps false x y p q = q

  kept_keeps : (ending : Ending) (targets : Targets) → KeepsUnits work (kept_outcome bounds k work ending targets)
  kept_keeps ending targets =
      let changes = changes_between work.kept (with_targets work.kept targets) in
      one_keeps (nat_lt MOST_TARGETS (length targets)) _ _ refl
      (stored_keeps ending (stored_if_spelled bounds work changes (with_targets work.kept targets))
      (one_stays (list_all has_spelling changes) _ _ (stay_stored changes (with_targets work.kept targets) refl) tt))

  stop_keeps : (left : List RawLine) (output : List ℕ) (line : ℕ) (stop : Stop) → KeepsUnits work (on_stop k work left output line stop)
  stop_keeps left output line (faulty fault) = refl
  stop_keeps left output line wrong = refl
  stop_keeps left output line run.wants = tt

  end_keeps : (left : List RawLine) (output : List ℕ) (targets : Targets) (end : End) → KeepsUnits work (on_end bounds k work left output targets end)
  end_keeps left output targets done = kept_keeps (record { output = output; left = left; line = _; quits = false }) targets
  end_keeps left output targets quit = kept_keeps (record { output = output; left = left; line = _; quits = true }) targets
  end_keeps left output targets (stopped line stop) = stop_keeps left output line stop

  pub answer_keeps : (left : List RawLine) (output : List ℕ) (targets : Targets) (end : End) (after : Work) (result : Result Answer AnswerFault)
      → IfOk result (λ answer. on_end bounds k work left output targets end ≡ told answer after left) → OnOk result (after.kept.units ≡ work.kept.units)
  answer_keeps left output targets end after (Ok answer) is = subst (KeepsUnits work) is (end_keeps left output targets end)
  answer_keeps left output targets end after (Err fault) is = tt

-- the checker of the units before is that of those after it, but where a call on the store failed
pub still : (checker : Option Checker) (before after : View) (result : Result Answer AnswerFault) → OnOk result (after.kept.units ≡ before.kept.units)
    → (IsErrOf result stops.Memory ⊎ (IsErrOf result stops.Input ⊎ IsErrOf result stops.Long) → after ≡ before) → IsUpToDate checker before.kept.units
    → ¬ (IsErrOf result stops.StoreFault) → IsUpToDate checker after.kept.units
still checker before after (Ok answer) units same is other = subst (IsUpToDate checker) (sym units) is
still checker before after (Err stops.Memory) units same is other = subst (λ (v : View). IsUpToDate checker v.kept.units) (sym (same (inl refl))) is
still checker before after (Err stops.Input) units same is other = subst (λ (v : View). IsUpToDate checker v.kept.units) (sym (same (inr (inl refl)))) is
still checker before after (Err stops.Long) units same is other = subst (λ (v : View). IsUpToDate checker v.kept.units) (sym (same (inr (inr refl)))) is
still checker before after (Err stops.StoreFault) units same is other = absurd (other refl)
