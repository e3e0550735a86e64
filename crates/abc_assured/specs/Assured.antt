-- What a session knows of a command whose calls all have units.
use Rattle.std.specs.Prelude.{◌≤◌, ℕ, List, IsSome, length}
use Rattle.std.specs.List.{AllByRecursion, Contains}
use Rattle.abc_num.specs.declared.limits.TheConstants.{MOST_LINES}
use Rattle.abc_tree.specs.Calls.{command_called_upto}
use Rattle.abc_tree.specs.Ordered.{RiseBy}
use Rattle.abc_tree.specs.declared.commands.Command.{Command}
use Rattle.abc_tree.specs.declared.commands.Unit.{Unit as Routine}
use Rattle.abc_tree.specs.declared.templates.Template.{Template}
use Rattle.abc_groups.specs.Program.{LAST_LINE, NoneIsMissing, graph_in, program_of, texts}
use Rattle.abc_frames.specs.Maps.{AreRegular, Targets}
use Rattle.abc_ground.specs.Groups.{LeadsTo, cut_of, whole}
use Rattle.abc_sound.specs.Checked.{IsReadCommand, IsReadUnit, IsSessionItem}

-- in the order of their templates, and none with more lines than can be counted
pub record AreKept (units : List Routine) : Type 0 where
  pub rise : RiseBy (λ u. u.template) units
  pub few : AllByRecursion (λ u. length u.lines ≤ LAST_LINE) units

-- no template that the command calls or that is reached from one of these is missing
abbrev pub NoneMissing : List Routine → Command → Type 0
NoneMissing units c = NoneIsMissing (program_of (graph_in units)) (texts (command_called_upto LAST_LINE c))

-- so each has a unit, among the units with all their lines
abbrev pub AllReached : Type 0
AllReached = (units : List Routine) (c : Command) (n : ℕ) → AreKept units → n ≤ LAST_LINE → NoneMissing units c
    → (t u : Template) → Contains (command_called_upto n c) t → LeadsTo (whole units) t u → IsSome (cut_of u (whole units))

-- what was read, over targets that are values, is what soundness asks of an item
abbrev pub MeetsPremises : Type 0
MeetsPremises = (units : List Routine) (targets : Targets) (c : Command) (n : ℕ) → AreKept units → AllByRecursion IsReadUnit units → AreRegular targets → IsReadCommand c
    → MOST_LINES ≤ n → n ≤ LAST_LINE → NoneMissing units c → IsSessionItem units targets c n
