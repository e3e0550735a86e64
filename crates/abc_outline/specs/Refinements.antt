-- The refinements of a unit and their kinds.
use Rattle.std.specs.Prelude.{ℕ, Bool, true, false, ◌||◌, List, [], ◌∷◌, Option, Some, None, codes, Result, Ok, Err, if◌then◌else◌}
use Rattle.std.specs.List.{list_any}
use Rattle.abc_num.specs.Text.{text_eq}
use Rattle.abc_tokens.specs.declared.kinds.TokenFault.{TokenFault}
use Rattle.abc_tree.specs.declared.commands.RefinementKind.{RefinementKind}
use Rattle.abc_tree.specs.declared.commands.RefinementKind.TheVariants as refines
use Rattle.abc_expressions.specs.declared.lexemes.Lexeme.{Lexeme}
use Rattle.abc_expressions.specs.declared.lexemes.Lexeme.TheVariants as t
use Rattle.abc_formula.specs.TestGrammar.{is_keyword}
use Rattle.abc_outline.specs.declared.edges.Edges.{Edges}
use Rattle.abc_outline.specs.declared.edges.Role.{Role}
use Rattle.abc_outline.specs.declared.edges.Role.TheVariants as role
use Rattle.abc_outline.specs.declared.edges.Setting.{Setting}
use Rattle.abc_outline.specs.declared.refining.Refined.{Refined}
use Rattle.abc_outline.specs.declared.rows.Row.{Row}
use Rattle.abc_outline.specs.Outline.{is_refinement, role_of}
use Rattle.abc_outline.specs.Parts.{parts_of}

-- a command that gives the outcome of a test
abbrev pub begins_report : List Lexeme → Bool
begins_report [] = false
begins_report (token ∷ ts) = is_keyword (codes "REPORT") token || (is_keyword (codes "SUCCEED") token || is_keyword (codes "FAIL") token)

-- the commands among the parts of a line: the front is none in a heading or an alternative
abbrev pub command_parts : Role → List (List Lexeme) → List (List Lexeme)
command_parts role [] = []
command_parts role.Command (front ∷ parts) = front ∷ parts
command_parts role.UnitHeading (front ∷ parts) = parts
command_parts role.RefinementHeading (front ∷ parts) = parts
command_parts role.Alternative (front ∷ parts) = parts

-- whether a command on a line gives the outcome of a test
abbrev pub reports : Role → Result (List Lexeme) TokenFault → Bool
reports role (Ok ts) = list_any begins_report (command_parts role (parts_of ts))
reports role (Err fault) = false

-- the same of these lines up to the next refinement heading
abbrev pub reports_up_to_heading : Setting → List Edges → List Row → Bool
reports_up_to_heading setting above [] = false
reports_up_to_heading setting above (row ∷ rows) = if is_refinement (role_of setting above row.edges) then false
    else reports (role_of setting above row.edges) row.read || reports_up_to_heading setting (row.edges ∷ above) rows

abbrev pub named_kind : Bool → RefinementKind
named_kind true = refines.Test
named_kind false = refines.Expression

abbrev pub kind_by_tokens : Bool → List Lexeme → RefinementKind
kind_by_tokens told (t.Keyword x ∷ ts) = refines.Command
kind_by_tokens told _ = named_kind told

-- a refinement with a keyword is one of commands; one with a name is a test where a command of its lines gives the outcome of a
-- test, and else an expression
abbrev pub kind_by : Bool → Result (List Lexeme) TokenFault → RefinementKind
kind_by told (Ok ts) = kind_by_tokens told ts
kind_by told (Err fault) = named_kind told

abbrev pub name_in_front : List Lexeme → List ℕ
name_in_front (t.Name x ∷ ts) = x
name_in_front (t.Keyword x ∷ ts) = x
name_in_front _ = []

-- the name or keyword of a heading, which is empty where the line has a fault of its tokens
abbrev pub heading_name : Result (List Lexeme) TokenFault → List ℕ
heading_name (Ok ts) = name_in_front ts
heading_name (Err fault) = []

-- the refinement whose heading is this row, with these rows behind it
abbrev pub refined_at : Setting → List Edges → Row → List Row → Refined
refined_at setting above row rows = record {
  name = heading_name row.read;
  kind = kind_by (reports role.RefinementHeading row.read || reports_up_to_heading setting (row.edges ∷ above) rows) row.read;
}

-- one for each refinement heading among the rows below these lines
abbrev pub refined_from : Setting → List Edges → List Row → List Refined
refined_from setting above [] = []
refined_from setting above (row ∷ rows) = if is_refinement (role_of setting above row.edges)
    then refined_at setting above row rows ∷ refined_from setting (row.edges ∷ above) rows else refined_from setting (row.edges ∷ above) rows

-- the kind of the first refinement that has this name
abbrev pub kind_of_name : List Refined → List ℕ → Option RefinementKind
kind_of_name [] x = None
kind_of_name (refinement ∷ more) x = if text_eq refinement.name x then Some refinement.kind else kind_of_name more x
