-- What a store keeps, and how changes change it.
use Rattle.std.specs.Prelude.{◌≡◌, ℕ, ◌≤◌, List, [], ◌∷◌, ◌++◌, length, map, Option, None, Some, option_map, option_and_then}
use Rattle.std.specs.List.{AllByRecursion}
use Rattle.std.specs.Map.{keys_of}
use Rattle.std.specs.Ordering.{match_ordering}
use Rattle.abc_num.specs.Text.{text_cmp}
use Rattle.abc_num.specs.declared.limits.TheConstants.{MOST_TARGETS, MOST_UNITS}
use Rattle.abc_num.specs.declared.lines.Line.{Line}
use Rattle.abc_value.specs.Tree.{Tree}
use Rattle.abc_frames.specs.declared.targets.TargetChange.{TargetChange}
use Rattle.abc_frames.specs.Maps.{Targets, with_value, without, changes_of}
use Rattle.abc_tree.specs.Templates.{template_text}
use Rattle.abc_tree.specs.Units.{with_unit}
use Rattle.abc_tree.specs.declared.commands.Item.{Item}
use Rattle.abc_tree.specs.declared.commands.Item.TheVariants as item
use Rattle.abc_tree.specs.declared.commands.Unit.{Unit as Routine}
use Rattle.abc_ground.specs.Groups.{whole}
use Rattle.abc_ground.specs.Typable.{IsTypable}
use Rattle.abc_parse.specs.Readings.{item_of}
use Rattle.abc_record.specs.declared.change.Change.{Change}
use Rattle.abc_record.specs.declared.change.Change.TheVariants.{SetTarget, DropTarget, SetUnit, DropUnit}
use Rattle.abc_record.specs.Spelling.{spelled}
use Rattle.abc_record.specs.Kept.{IsKeptName, AreKeptLines}

-- what a store keeps: the values of its targets, and its units in the order of their templates, each with the lines it was put as
pub record Workspace : Type 0 where
  pub targets : Targets
  pub units : List Routine

-- the workspace of a new store
abbrev pub empty : Workspace
empty = record { targets = []; units = [] }

-- ---- changes

abbrev pub unit_in : Item → Option Routine
unit_in (item.Unit unit) = Some unit
unit_in _ = None

-- the unit that these lines spell, where they spell one. What targets there are plays no part in it
unfoldable pub unit_of_lines : List Line → Option Routine
unit_of_lines lines = option_and_then unit_in (item_of lines [])

-- the unit whose template is written so, if there is one
abbrev pub unit_named : List ℕ → List Routine → Option Routine
unit_named text [] = None
unit_named text (unit ∷ units) = match_ordering (text_cmp (template_text unit.template) text) (unit_named text units) (Some unit) None

-- the units without the one whose template is written so
abbrev pub without_named : List ℕ → List Routine → List Routine
without_named text [] = []
without_named text (unit ∷ units) = match_ordering (text_cmp (template_text unit.template) text) (unit ∷ without_named text units) units (unit ∷ units)

-- a unit takes the place of one with its template, or comes beside the others
abbrev pub with_routine : Workspace → Routine → Workspace
with_routine kept unit = record { targets = kept.targets; units = with_unit unit kept.units }

-- the workspace after a change; lines that spell no unit change nothing into nothing
abbrev pub changed : Change → Workspace → Option Workspace
changed (SetTarget name value) kept = Some (record { targets = with_value name value kept.targets; units = kept.units })
changed (DropTarget name) kept = Some (record { targets = without name kept.targets; units = kept.units })
changed (SetUnit lines) kept = option_map (with_routine kept) (unit_of_lines lines)
changed (DropUnit template) kept = Some (record { targets = kept.targets; units = without_named template kept.units })

-- the workspace after changes, one after the other
abbrev pub changed_by : List Change → Workspace → Option Workspace
changed_by [] kept = Some kept
changed_by (change ∷ changes) kept = option_and_then (changed_by changes) (changed change kept)

-- ---- what a workspace may be

-- it has no more than a workspace may have
pub record IsWithinLimits (kept : Workspace) : Type 0 where
  pub targets : length kept.targets ≤ MOST_TARGETS
  pub units : length kept.units ≤ MOST_UNITS

-- types fit it: its targets have types under which all its units do
unfoldable pub IsWellTyped : Workspace → Type 0
IsWellTyped kept = IsTypable kept.targets (whole kept.units)

-- each target has a name that changes can spell
abbrev pub AreNamed : Targets → Type 0
AreNamed targets = AllByRecursion IsKeptName (keys_of targets)

-- a unit is what its lines spell, and changes can spell these
pub record IsKeptUnit (unit : Routine) : Type 0 where
  pub lines : AreKeptLines unit.lines
  pub spelled : unit_of_lines unit.lines ≡ Some unit

abbrev pub AreKeptUnits : List Routine → Type 0
AreKeptUnits units = AllByRecursion IsKeptUnit units

-- ---- the changes that make a workspace

-- the change that gives a target its value
abbrev pub set_target : List ℕ × Tree → Change
set_target target = SetTarget target.0 target.1

-- the change that puts a unit
abbrev pub set_unit : Routine → Change
set_unit unit = SetUnit unit.lines

-- the changes that make a workspace of the empty one: all its targets in order of their names, then all its units in order of their templates
abbrev pub everything : Workspace → List Change
everything kept = map set_target kept.targets ++ map set_unit kept.units

-- what a checkpoint of a workspace holds
unfoldable pub checkpoint_of : Workspace → List ℕ
checkpoint_of kept = spelled (everything kept)

-- the change by which a name has this value, or none
abbrev pub state_change : List ℕ → Option Tree → Change
state_change name None = DropTarget name
state_change name (Some value) = SetTarget name value

abbrev pub as_change : TargetChange → Change
as_change change = state_change change.name change.value

-- a workspace with other targets and the same units
abbrev pub with_targets : Workspace → Targets → Workspace
with_targets kept targets = record { targets = targets; units = kept.units }

-- the changes that lead from a workspace to another with the same units: the targets whose value differs, in order of their names
abbrev pub changes_between : Workspace → Workspace → List Change
changes_between before after = map as_change (changes_of before.targets after.targets)
