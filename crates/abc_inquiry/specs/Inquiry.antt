-- What a line that asks about the workspace answers.
use Rattle.std.specs.Prelude.{ℕ, List, [], ◌∷◌, ◌++◌, length, replicate, Option, None, Some, nat_lt, if◌then◌else◌}
use Rattle.std.specs.List.{flat_map}
use Rattle.std.specs.Map.{keys_of}
use Rattle.abc_num.specs.declared.limits.TheConstants.{MOST_OUTPUT}
use Rattle.abc_num.specs.declared.lines.Line.{Line}
use Rattle.abc_tokens.specs.Bytes.{space}
use Rattle.abc_value.specs.Tree.{Tree}
use Rattle.abc_value.specs.Printed.{display}
use Rattle.abc_frames.specs.Maps.{value_of}
use Rattle.abc_tree.specs.Templates.{template_text}
use Rattle.abc_tree.specs.declared.commands.Environment.{Environment}
use Rattle.abc_tree.specs.declared.commands.Environment.TheVariants as asks
use Rattle.abc_tree.specs.declared.commands.Unit.{Unit as Routine}
use Rattle.abc_store.specs.Workspace.{Workspace, unit_named}
use Rattle.abc_inquiry.specs.declared.answering.Answered.{Answered}
use Rattle.abc_inquiry.specs.declared.answering.Answered.TheVariants.{Shows, Drops, NoUnit, NoTarget, TooLong}

-- a line with the LF that ends it
abbrev pub with_lf : List ℕ → List ℕ
with_lf line = line ++ 10 ∷ []

-- a unit among others: its template
abbrev pub shown_unit : Routine → List ℕ
shown_unit unit = with_lf (template_text unit.template)

abbrev pub templates_shown : List Routine → List ℕ
templates_shown units = flat_map shown_unit units

-- names, one a line
abbrev pub names_shown : List (List ℕ) → List ℕ
names_shown names = flat_map with_lf names

-- a line of a unit, with its indentation in spaces
abbrev pub shown_line : Line → List ℕ
shown_line line = replicate line.indent space ++ with_lf line.text

abbrev pub lines_shown : List Line → List ℕ
lines_shown lines = flat_map shown_line lines

-- this is shown, where an item may write so much
abbrev pub within : List ℕ → Answered
within output = if nat_lt MOST_OUTPUT (length output) then TooLong else Shows output

-- the answer of a unit that is asked for, if there is one
abbrev pub of_unit : Option Routine → (Routine → Answered) → Answered
of_unit None answer = NoUnit
of_unit (Some unit) answer = answer unit

-- the display of a value, if there is one
abbrev pub of_value : Option Tree → Answered
of_value None = NoTarget
of_value (Some value) = within (display value)

-- the answer to each line that asks: the templates of all units in order, the names of all targets in order, the lines of a unit, the
-- display of a target, or that a unit is taken out
abbrev pub inquiry : Workspace → Environment → Answered
inquiry kept asks.Units = within (templates_shown kept.units)
inquiry kept asks.Targets = within (names_shown (keys_of kept.targets))
inquiry kept (asks.ShowUnit template) = of_unit (unit_named template kept.units) (λ unit. within (lines_shown unit.lines))
inquiry kept (asks.ShowTarget name) = of_value (value_of name kept.targets)
inquiry kept (asks.RemoveUnit template) = of_unit (unit_named template kept.units) (λ unit. Drops template)
