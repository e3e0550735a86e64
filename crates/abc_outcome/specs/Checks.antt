-- What the type check tells of an item: its type line, up to which no types fit.
use Rattle.std.specs.Prelude.{◌≡◌, ◌≤◌, ℕ, List, length, Option, None, Some, IfSome}
use Rattle.std.specs.Map.{keys_of}
use Rattle.abc_num.specs.declared.lines.Line.{Line}
use Rattle.abc_tree.specs.declared.commands.Command.{Command}
use Rattle.abc_tree.specs.declared.commands.Item.{Item}
use Rattle.abc_tree.specs.declared.commands.Item.TheVariants as item
use Rattle.abc_tree.specs.declared.commands.Unit.{Unit as Routine}
use Rattle.abc_groups.specs.Program.{LAST_LINE}
use Rattle.abc_ground.specs.Groups.{whole, with_cut}
use Rattle.abc_ground.specs.Typable.{IsTypable, IsTypableWith, IsTypeLine}
use Rattle.abc_parse.specs.Readings.{item_of}
use Rattle.abc_check.specs.Standing.{IsMade, StandsFor}
use Rattle.abc_check.specs.declared.checker.Checker.{Checker}
use Rattle.abc_store.specs.Workspace.{Workspace}
use Rattle.abc_outcome.specs.Missing.{called_by, first_missing}

-- the workspace is typable with a command cut after line n
abbrev pub TakesCommand : Workspace → Command → ℕ → Type 0
TakesCommand kept c n = IsTypableWith kept.targets (whole kept.units) c n

-- it is typable with a unit, cut after line n, in place of the one of its template
abbrev pub TakesUnit : Workspace → Routine → ℕ → Type 0
TakesUnit kept u n = IsTypable kept.targets (with_cut u n kept.units)

-- what is told of an item whose last line is this: its type line, or none where types fit all of it
abbrev pub TellsTypeLine : (ℕ → Type 0) → ℕ → Option ℕ → Type 0
TellsTypeLine takes last None = takes last
TellsTypeLine takes last (Some line) = IsTypeLine takes line × (takes last → ⊥)

-- this is told of an item in a workspace. Nothing is asked of a command that reaches a missing unit, nor of a line that asks about
-- the workspace: these aren't checked. A unit has a line, its heading.
abbrev pub TellsOf : Workspace → Option Item → Option ℕ → Type 0
TellsOf kept None line = Unit {0}
TellsOf kept (Some (item.Environment asked)) line = Unit {0}
TellsOf kept (Some (item.Command c)) line = first_missing kept.units (called_by c) ≡ None → TellsTypeLine (TakesCommand kept c) LAST_LINE line
TellsOf kept (Some (item.Unit u)) line = 1 ≤ length u.lines → TellsTypeLine (TakesUnit kept u) (length u.lines) line

-- this is the type line of the item that has these lines, if it has one
abbrev pub IsTypeLineOf : Workspace → List Line → Option ℕ → Type 0
IsTypeLineOf kept lines line = TellsOf kept (item_of lines (keys_of kept.targets)) line

-- A type check, as what it tells of each item, by the lines of that, in each workspace.
abbrev pub Check : Type 0
Check = Workspace → List Line → Option ℕ

-- it tells exactly the type lines
abbrev pub IsExact : Check → Type 0
IsExact check = (kept : Workspace) (lines : List Line) → IsTypeLineOf kept lines (check kept lines)

-- The checker that is kept beside a store, if there is one, knows the units of its workspace.
abbrev pub IsUpToDate : Option Checker → List Routine → Type 0
IsUpToDate checker units = IfSome checker (λ c. IsMade c × StandsFor c (whole units))
