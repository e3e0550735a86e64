-- How a line begins and ends that says something, and what heads go with each reading.
use Rattle.std.specs.Prelude.{◌≡◌, ℕ, Bool, true, false, List, [], ◌∷◌, Option, Some, None, is_none, bytes_eq, codes, if◌then◌else◌}
use Rattle.abc_tree.specs.declared.commands.ActionNode.{ActionNode}
use Rattle.abc_tree.specs.declared.templates.TemplateKind.{TemplateKind}
use Rattle.abc_tree.specs.declared.templates.TemplateKind.TheVariants as template
use Rattle.abc_expressions.specs.declared.lexemes.Lexeme.{Lexeme}
use Rattle.abc_expressions.specs.declared.lexemes.Lexeme.TheVariants as t
use Rattle.abc_formula.specs.TestGrammar.{is_keyword}
use Rattle.abc_clauses.specs.declared.clause.Clause.{Clause}
use Rattle.abc_clauses.specs.declared.clause.Head.{Head}
use Rattle.abc_clauses.specs.declared.clause.Head.TheVariants as head
use Rattle.abc_clauses.specs.Cuts.{is_colon}

-- the last token is a colon
abbrev pub ends_in_colon : List Lexeme → Bool
ends_in_colon [] = false
ends_in_colon (token ∷ []) = is_colon token
ends_in_colon (token ∷ token_2 ∷ ts) = ends_in_colon (token_2 ∷ ts)

-- the first token is SELECT
abbrev pub begins_select : List Lexeme → Bool
begins_select [] = false
begins_select (token ∷ ts) = is_keyword (codes "SELECT") token

abbrev pub is_select : Head → Bool
is_select head.Select = true
is_select _ = false

-- the head of a command's line, with nothing or something beside it; nothing stands beside a simple command, SELECT or
-- SHARE
abbrev pub is_command_head : Head → Bool → Bool
is_command_head (head.Simple node) alone = alone
is_command_head (head.Share names) alone = alone
is_command_head head.Select alone = alone
is_command_head (head.If test) alone = true
is_command_head (head.While test) alone = true
is_command_head (head.For names train) alone = true
is_command_head head.Otherwise alone = true
is_command_head _ alone = false

abbrev pub is_alternative_head : Head → Bool
is_alternative_head (head.When test) = true
is_alternative_head head.Otherwise = true
is_alternative_head _ = false

abbrev pub is_unit_head : Head → Bool
is_unit_head (head.Unit f formals) = true
is_unit_head _ = false

abbrev pub is_refinement_head : Head → Bool
is_refinement_head (head.Refinement x) = true
is_refinement_head _ = false

-- whether a heading's suite stands below it
abbrev pub has_suite_below : Head → Option ActionNode → Bool
has_suite_below h (Some beside) = false
has_suite_below (head.Simple n) None = false
has_suite_below (head.Share names) None = false
has_suite_below _ None = true

-- the tokens end in a colon exactly where the clause's suite stands below it
abbrev pub EndsSo : List Lexeme → Clause → Type 0
EndsSo ts clause = ends_in_colon ts ≡ has_suite_below clause.head clause.beside

-- the tokens of a command's line and what they say: they begin with SELECT exactly where that is a choice
pub record IsCommandLine (ts : List Lexeme) (clause : Clause) : Type 0 where
  pub ends : EndsSo ts clause
  pub begins : begins_select ts ≡ is_select clause.head
  pub suits : is_command_head clause.head (is_none clause.beside) ≡ true

pub record IsAlternativeLine (ts : List Lexeme) (clause : Clause) : Type 0 where
  pub ends : EndsSo ts clause
  pub suits : is_alternative_head clause.head ≡ true

-- RETURN begins a function, REPORT a predicate, anything else a command
abbrev pub kind_by_word : List ℕ → TemplateKind
kind_by_word word = if bytes_eq word (codes "RETURN") then template.Function else (if bytes_eq word (codes "REPORT") then template.Predicate else template.Command)

-- by the keyword behind HOW TO
abbrev pub kind_by_tokens : List Lexeme → TemplateKind
kind_by_tokens (how ∷ to ∷ t.Keyword word ∷ ts) = kind_by_word word
kind_by_tokens _ = template.Command

-- the heading of a unit of this kind
abbrev pub HasKind : TemplateKind → Head → Type 0
HasKind kind (head.Unit f formals) = f.kind ≡ kind
HasKind kind _ = ⊥

pub record IsUnitLine (ts : List Lexeme) (clause : Clause) : Type 0 where
  pub ends : EndsSo ts clause
  pub suits : is_unit_head clause.head ≡ true
  pub kind : HasKind (kind_by_tokens ts) clause.head

pub record IsRefinementLine (ts : List Lexeme) (clause : Clause) : Type 0 where
  pub ends : EndsSo ts clause
  pub suits : is_refinement_head clause.head ≡ true
