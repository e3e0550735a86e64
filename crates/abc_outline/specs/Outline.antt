-- The outline of an item: the place of each line, by indentation and by how lines begin and end. `above` is the lines above a
-- line, the nearest first.
use Rattle.std.specs.Prelude.{◌≡◌, ◌<◌, ◌^◌, ℕ, ◌+◌, Bool, true, false, ◌&&◌, ◌||◌, ◌==◌, nat_lt, nat_le, List, [], ◌∷◌, length, Option, Some, None, if◌then◌else◌}
use Rattle.abc_tokens.specs.declared.kinds.First.{First}
use Rattle.abc_tokens.specs.declared.kinds.First.TheVariants as first
use Rattle.abc_outline.specs.declared.edges.Edges.{Edges}
use Rattle.abc_outline.specs.declared.outlining.Outline.{Outline}
use Rattle.abc_outline.specs.declared.edges.Place.{Place}
use Rattle.abc_outline.specs.declared.edges.Role.{Role}
use Rattle.abc_outline.specs.declared.edges.Role.TheVariants as role
use Rattle.abc_outline.specs.declared.edges.Section.{Section}
use Rattle.abc_outline.specs.declared.edges.Setting.{Setting}
use Rattle.abc_outline.specs.declared.edges.Standing.{Standing}
use Rattle.abc_outline.specs.declared.rows.Row.{Row}

abbrev pub is_how_to : First → Bool
is_how_to first.HowTo = true
is_how_to _ = false

abbrev pub is_heading : First → Bool
is_heading first.Heading = true
is_heading _ = false

abbrev pub is_command : Role → Bool
is_command role.Command = true
is_command _ = false

abbrev pub is_refinement : Role → Bool
is_refinement role.RefinementHeading = true
is_refinement _ = false

-- an item is a unit where its first line begins with HOW TO
abbrev pub is_unit : List Row → Bool
is_unit [] = false
is_unit (row ∷ rows) = is_how_to row.edges.first

abbrev pub first_indent : List Row → ℕ
first_indent [] = 0
first_indent (row ∷ rows) = row.edges.indent

-- the indentation of the second line
abbrev pub body_of : List Row → ℕ
body_of [] = 0
body_of (row ∷ rows) = first_indent rows

abbrev pub setting_of : List Row → Setting
setting_of rows = record { unit = is_unit rows; body = body_of rows }

-- ---- the lines round a line, the innermost first

-- those that are not deeper than n, from the innermost such on
abbrev pub not_deeper : ℕ → List Standing → List Standing
not_deeper n [] = []
not_deeper n (line ∷ around) = if nat_lt n line.edges.indent then not_deeper n around else line ∷ around

-- those that are less deep than n, from the innermost such on
abbrev pub left : ℕ → List Standing → List Standing
left n [] = []
left n (line ∷ around) = if nat_lt line.edges.indent n then line ∷ around else left n around

abbrev pub begins_at : ℕ → List Standing → Bool
begins_at n [] = false
begins_at n (line ∷ around) = line.edges.indent == n

-- the innermost that is not deeper than n stands at n
abbrev pub stands_at : ℕ → List Standing → Bool
stands_at n around = begins_at n (not_deeper n around)

-- a SELECT with alternatives below it, which is itself no alternative and no heading
abbrev pub opens_select : Edges → Role → Bool
opens_select line role = line.selects && (line.ends_in_colon && is_command role)

-- whether a line stands among the alternatives of a SELECT, by the lines round it
abbrev pub is_chosen : List Standing → Bool
is_chosen [] = false
is_chosen (line ∷ around) = opens_select line.edges line.role

-- the shape of a refinement heading in a unit, not deeper than the line before, at indentation 0 or that of the second line
abbrev pub may_be_heading : Setting → Edges → Edges → Bool
may_be_heading setting before line =
    setting.unit && (is_heading line.first && (nat_le line.indent before.indent && ((line.indent == 0) || (line.indent == setting.body))))

abbrev pub first_role : Bool → Role
first_role true = role.UnitHeading
first_role false = role.Command

-- what a line is, by the line before it and the lines round it
abbrev pub role_by : Setting → Option Edges → List Standing → Edges → Role
role_by setting None around line = first_role setting.unit
role_by setting (Some before) around line =
    if is_chosen around then role.Alternative else (if may_be_heading setting before line then role.RefinementHeading else role.Command)

-- the suites that are open at a line, by the lines round it
abbrev pub suites : List Standing → ℕ
suites [] = 0
suites (line ∷ around) = line.suites

-- The suites that are open in what stands below a line: the one that it opens, and those round it. The alternatives of a SELECT
-- are no suite by themselves, and a refinement stands in no other suite.
abbrev pub suites_below : Edges → Role → ℕ → ℕ
suites_below line role.RefinementHeading open_suites = 1
suites_below line role.UnitHeading open_suites = open_suites + 1
suites_below line role.Alternative open_suites = open_suites + 1
suites_below line role.Command open_suites = if opens_select line role.Command then open_suites else open_suites + 1

-- no line stands round a refinement heading, since a refinement stands in no suite
abbrev pub round_by : Role → List Standing → List Standing
round_by role.RefinementHeading around = []
round_by role.UnitHeading around = around
round_by role.Alternative around = around
round_by role.Command around = around

-- a line in front of those round it
abbrev pub standing : Edges → Role → List Standing → List Standing
standing line role around = record { edges = line; role = role; suites = suites_below line role (suites around) } ∷ around

abbrev pub last : List Edges → Option Edges
last [] = None
last (line ∷ above) = Some line

-- the last line above and the lines round it
abbrev pub chain : Setting → List Edges → List Standing
chain setting [] = []
chain setting (line ∷ above) =
    standing line (role_by setting (last above) (left line.indent (chain setting above)) line)
    (round_by (role_by setting (last above) (left line.indent (chain setting above)) line) (left line.indent (chain setting above)))

-- the lines round a line of indentation n, unless it is found to be a refinement heading, round which none stands
abbrev pub around : Setting → ℕ → List Edges → List Standing
around setting n above = left n (chain setting above)

-- what a line is in its item
abbrev pub role_of : Setting → List Edges → Edges → Role
role_of setting above line = role_by setting (last above) (around setting line.indent above) line

-- the suites that are open at a line
abbrev pub suites_at : Setting → List Edges → Edges → ℕ
suites_at setting above line = suites (round_by (role_of setting above line) (around setting line.indent above))

abbrev pub next_number : Option Section → ℕ
next_number None = 0
next_number (Some section) = section.number + 1

-- the refinement in which what stands behind a line stands
abbrev pub section_by : Role → Edges → Option Section → Option Section
section_by role.RefinementHeading line section = Some (record { number = next_number section; indent = line.indent })
section_by role.UnitHeading line section = section
section_by role.Alternative line section = section
section_by role.Command line section = section

-- the refinement of the last heading among these lines
abbrev pub section_of : Setting → List Edges → Option Section
section_of setting [] = None
section_of setting (line ∷ above) = section_by (role_of setting above line) line (section_of setting above)

-- the place of a line
abbrev pub place_of : Setting → List Edges → Edges → Place
place_of setting above line = record {
  number = length above + 1;
  before = last above;
  level = stands_at line.indent (chain setting above);
  suites = suites_at setting above line;
  role = role_of setting above line;
  section = section_of setting (line ∷ above);
}

-- what the places below these lines go by
abbrev pub outline_of : Setting → List Edges → Outline
outline_of setting above = record {
  setting = setting;
  number = length above;
  before = last above;
  section = section_of setting above;
  around = chain setting above;
}

-- it is the outline of some lines, and there are not too many to count one more
abbrev pub IsBelow : Outline → Type 0
IsBelow outline = (setting : Setting) × (above : List Edges) × (outline ≡ outline_of setting above) × (length above < 2 ^ 63)
