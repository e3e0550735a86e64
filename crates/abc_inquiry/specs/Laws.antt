-- What holds of units that are taken out.
use Rattle.std.specs.Prelude.{◌≡◌, ℕ, List, None, Some}
use Rattle.abc_num.specs.declared.lines.Line.{Line}
use Rattle.abc_tree.specs.Units.{AreRising}
use Rattle.abc_tree.specs.declared.commands.Environment.{Environment}
use Rattle.abc_tree.specs.declared.commands.Environment.TheVariants.{ShowUnit, RemoveUnit}
use Rattle.abc_outline.specs.Rows.{IsShort, row_of}
use Rattle.abc_faults.specs.Environments.{environment_fault, asked}
use Rattle.abc_record.specs.Kept.{IsKeptText}
use Rattle.abc_record.specs.declared.change.Change.TheVariants.{DropUnit}
use Rattle.abc_store.specs.Workspace.{Workspace, changed, IsWithinLimits}
use Rattle.abc_inquiry.specs.declared.answering.Answered.TheVariants.{NoUnit}
use Rattle.abc_inquiry.specs.Inquiry.{inquiry}

-- a workspace that is within its limits stays so
abbrev pub DropsKeepWithinLimits : Type 0
DropsKeepWithinLimits = (template : List ℕ) (kept later : Workspace) → IsWithinLimits kept → changed (DropUnit template) kept ≡ Some later → IsWithinLimits later

-- who asks for the unit then is told that it isn't there
abbrev pub DroppedAreGone : Type 0
DroppedAreGone = (template : List ℕ) (kept later : Workspace) → AreRising kept.units → changed (DropUnit template) kept ≡ Some later → inquiry later (ShowUnit template) ≡ NoUnit

-- where a unit is to be taken out, a change can spell its template
abbrev pub CanBeSpelled : Environment → Type 0
CanBeSpelled (RemoveUnit template) = IsKeptText template
CanBeSpelled _ = Unit {0}

-- so it is for each line in which no fault stands
abbrev pub AskedCanBeSpelled : Type 0
AskedCanBeSpelled = (line : Line) → IsShort line → environment_fault (row_of line) ≡ None → CanBeSpelled (asked (row_of line))
