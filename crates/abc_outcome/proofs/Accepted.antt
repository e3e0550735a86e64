-- Commands that are accepted over what a store holds.
use Rattle.std.proofs.Common.{◌≡◌, ◌≤◌, ℕ, true, List, [], ◌∷◌, length, None, Some, subst, arith}
use Rattle.abc_num.proofs.Parts.{each_weaker}
use Rattle.abc_tree.specs.Units.{AreRising as AreInOrder}
use Rattle.abc_tree.specs.declared.commands.Command.{Command}
use Rattle.abc_frames.specs.Maps.{AreRegular}
use Rattle.abc_groups.specs.Program.{LAST_LINE}
use Rattle.abc_record.specs.declared.change.Change.{Change}
use Rattle.abc_sound.specs.Checked.{IsReadCommand, IsReadUnit}
use Rattle.abc_assured.specs.Assured.{MeetsPremises}
use Rattle.abc_eval.specs.Runs.{IsAccepted}
use Rattle.abc_store.specs.Laws.{KeptUnitsAreRegular}
use Rattle.abc_store.specs.Workspace.{Workspace, IsKeptUnit, AreKeptUnits, IsWellTyped, changed_by}
use Rattle.abc_outcome.specs.Checks.{TakesCommand}
use Rattle.abc_outcome.specs.Missing.{called_by, first_missing}
use Rattle.abc_outcome.proofs.Firsts.{computed_none}

pub accepted : MeetsPremises → KeptUnitsAreRegular → (kept : Workspace) (c : Command) → AreRegular kept.targets → AreKeptUnits kept.units → AreInOrder kept.units → IsReadCommand c
    → first_missing kept.units (called_by c) ≡ None → TakesCommand kept c LAST_LINE → IsAccepted kept.units kept.targets c
accepted meets read kept c regular units in_order command none fits = (
  LAST_LINE,
  meets kept.units kept.targets c LAST_LINE
      (record { rise = in_order; few = each_weaker IsKeptUnit (λ u. length u.lines ≤ LAST_LINE) (λ u is. omega (arith, is.lines.1)) kept.units units })
      (each_weaker IsKeptUnit IsReadUnit (λ u is. record { regular = (read u is).0; numbers = (read u is).1 }) kept.units units) regular command (omega arith) (omega arith)
      (computed_none kept.units (called_by c) none),
  fits,
)

-- where no change is made the workspace is as it was
pub typed_unchanged : (changes : List Change) (kept later : Workspace) → length changes ≡ 0 → changed_by changes kept ≡ Some later → IsWellTyped kept → IsWellTyped later
typed_unchanged [] kept later none lead typed =
    let same : kept ≡ later = cc in
    subst IsWellTyped same typed
typed_unchanged (change ∷ changes) kept later none lead typed = absurd (omega (arith, none))
