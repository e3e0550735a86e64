-- What is known of an item before its lines are judged.
use Rattle.std.specs.Prelude.{ℕ, Bool, true, false, not, ◌&&◌, List, [], ◌∷◌, Option, Some, None, is_none, Result, Ok, Err, if◌then◌else◌, map}
use Rattle.abc_tokens.specs.declared.kinds.TokenFault.{TokenFault}
use Rattle.abc_tree.specs.declared.templates.TemplateKind.{TemplateKind}
use Rattle.abc_tree.specs.declared.templates.TemplateKind.TheVariants as template
use Rattle.abc_expressions.specs.declared.lexemes.Lexeme.{Lexeme}
use Rattle.abc_outline.specs.declared.edges.Edges.{Edges}
use Rattle.abc_outline.specs.declared.edges.Place.{Place}
use Rattle.abc_outline.specs.declared.edges.Role.{Role}
use Rattle.abc_outline.specs.declared.edges.Role.TheVariants as role
use Rattle.abc_outline.specs.declared.rows.Row.{Row}
use Rattle.abc_outline.specs.Outline.{is_how_to, setting_of, place_of, opens_select}
use Rattle.abc_outline.specs.OwnNames.{item_names, refinements, name_kinds, commands_of}
use Rattle.abc_clauses.specs.declared.clause.Clause.{Clause}
use Rattle.abc_clauses.specs.declared.clause.Head.{Head}
use Rattle.abc_clauses.specs.declared.clause.Head.TheVariants as head
use Rattle.abc_tree.specs.declared.commands.ActionNode.{ActionNode}
use Rattle.abc_clauses.specs.Edges.{kind_by_tokens, has_suite_below, is_select}
use Rattle.abc_clauses.specs.Readings.{command_of, alternative_of, heading_of, refinement_of}
use Rattle.abc_faults.specs.declared.facts.Facts.{Facts}

abbrev pub kind_by_read : Result (List Lexeme) TokenFault → TemplateKind
kind_by_read (Ok ts) = kind_by_tokens ts
kind_by_read (Err fault) = template.Command

-- what an item is: a command, where it is no unit
abbrev pub unit_kind : List Row → TemplateKind
unit_kind [] = template.Command
unit_kind (row ∷ rows) = if is_how_to row.edges.first then kind_by_read row.read else template.Command

-- the facts of an item with these lines, where these are targets
abbrev pub facts_of : List (List ℕ) → List Row → Facts
facts_of targets rows = record {
  setting = setting_of rows;
  kind = unit_kind rows;
  names = item_names targets rows;
  kinds = name_kinds (item_names targets rows) (refinements rows);
  commands = commands_of (refinements rows);
  sections = refinements rows;
}

abbrev pub edges : List Row → List Edges
edges rows = map (λ row. row.edges) rows

-- the place of a line below others, the nearest of which is first
abbrev pub place_below : Facts → List Row → Row → Place
place_below facts above row = place_of facts.setting (edges above) row.edges

-- what tokens say, by what their line is in the item
abbrev pub clause_by : Facts → Role → ℕ → List ℕ → List Lexeme → Option Clause
clause_by facts role.UnitHeading n text ts = heading_of facts.names facts.kinds facts.commands text n ts
clause_by facts role.RefinementHeading n text ts = refinement_of facts.names facts.kinds facts.commands text n ts
clause_by facts role.Alternative n text ts = alternative_of facts.names facts.kinds facts.commands text n ts
clause_by facts role.Command n text ts = command_of facts.names facts.kinds facts.commands text n ts

-- a line with a fault of its tokens says nothing
abbrev pub clause_read : Facts → Role → ℕ → List ℕ → Result (List Lexeme) TokenFault → Option Clause
clause_read facts role n text (Ok ts) = clause_by facts role n text ts
clause_read facts role n text (Err fault) = None

-- ---- what goes together

-- the line of a command, with nothing or something beside it; nothing stands beside a simple command or SHARE
abbrev pub is_command_head : Head → Bool → Bool
is_command_head (head.Simple node) alone = alone
is_command_head (head.Share names) alone = alone
is_command_head (head.If test) alone = true
is_command_head (head.While test) alone = true
is_command_head (head.For names train) alone = true
is_command_head head.Select alone = true
is_command_head head.Otherwise alone = true
is_command_head _ alone = false

-- A line says what goes with its place: the heading of a unit or of a refinement, an alternative, or a command.
abbrev pub suits : Role → Head → Option ActionNode → Bool
suits role.UnitHeading (head.Unit f formals) beside = true
suits role.RefinementHeading (head.Refinement x) beside = true
suits role.Alternative (head.When test) beside = true
suits role.Alternative head.Otherwise beside = true
suits role.Command h beside = is_command_head h (is_none beside)
suits _ _ _ = false

abbrev pub opens : Clause → Bool
opens clause = has_suite_below clause.head clause.beside

-- two tests have the same outcome
abbrev pub same : Bool → Bool → Bool
same true b = b
same false b = not b

-- what a line says is seen at its edges: it ends in a colon where its suite stands below it, and only SELECT begins a choice
abbrev pub agrees : Edges → Role → Clause → Bool
agrees edges role clause = suits role clause.head clause.beside && (same edges.ends_in_colon (opens clause) && same (opens_select edges role) (is_select clause.head))

abbrev pub if_agrees : Edges → Role → Option Clause → Option Clause
if_agrees edges role None = None
if_agrees edges role (Some clause) = if agrees edges role clause then Some clause else None

-- what a line says, if anything
abbrev pub clause_of : Facts → Place → Row → Option Clause
clause_of facts place row = if_agrees row.edges place.role (clause_read facts place.role place.number row.line.text row.read)
