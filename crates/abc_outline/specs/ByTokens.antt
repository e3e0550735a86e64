-- How a line begins and ends, by its tokens.
use Rattle.std.specs.Prelude.{◌≡◌, ℕ, Bool, true, false, not, ◌&&◌, List, [], ◌∷◌, codes, Result, Ok, Err}
use Rattle.abc_tokens.specs.Shape.{is_reserved}
use Rattle.abc_tokens.specs.declared.kinds.TokenFault.{TokenFault}
use Rattle.abc_expressions.specs.declared.lexemes.Lexeme.{Lexeme}
use Rattle.abc_expressions.specs.declared.lexemes.Lexeme.TheVariants as t
use Rattle.abc_formula.specs.TestGrammar.{is_keyword}
use Rattle.abc_outline.specs.declared.edges.Edges.{Edges}
use Rattle.abc_outline.specs.declared.rows.Row.{Row}
use Rattle.abc_outline.specs.Outline.{is_how_to, is_heading}
use Rattle.abc_outline.specs.Parts.{is_colon}

-- the last token is a colon
abbrev pub ends_in_colon : List Lexeme → Bool
ends_in_colon [] = false
ends_in_colon (token ∷ []) = is_colon token
ends_in_colon (token ∷ token_2 ∷ ts) = ends_in_colon (token_2 ∷ ts)

-- the first token is this keyword
abbrev pub begins_with : List ℕ → List Lexeme → Bool
begins_with word [] = false
begins_with word (token ∷ ts) = is_keyword word token

-- the first token is a colon
abbrev pub begins_with_colon : List Lexeme → Bool
begins_with_colon [] = false
begins_with_colon (token ∷ ts) = is_colon token

-- HOW TO
abbrev pub begins_unit : List Lexeme → Bool
begins_unit [] = false
begins_unit (token ∷ ts) = is_keyword (codes "HOW") token && begins_with (codes "TO") ts

-- a name, or a keyword that isn't reserved
abbrev pub names_refinement : Lexeme → Bool
names_refinement (t.Name x) = true
names_refinement (t.Keyword x) = not (is_reserved x)
names_refinement (t.Number bytes) = false
names_refinement (t.Text bytes) = false
names_refinement (t.Sign sign) = false
names_refinement t.Other = false

-- such a name and a colon
abbrev pub begins_refinement : List Lexeme → Bool
begins_refinement [] = false
begins_refinement (token ∷ ts) = names_refinement token && begins_with_colon ts

-- the edges of a line are those of its tokens
pub record AreEdges (edges : Edges) (ts : List Lexeme) : Type 0 where
  pub colon : edges.ends_in_colon ≡ ends_in_colon ts
  pub select : edges.selects ≡ begins_with (codes "SELECT") ts
  pub unit : is_how_to edges.first ≡ begins_unit ts
  pub refinement : is_heading edges.first ≡ begins_refinement ts

abbrev pub Follow : Edges → Result (List Lexeme) TokenFault → Type 0
Follow edges (Ok ts) = AreEdges edges ts
Follow edges (Err fault) = Unit {0}

-- where a line has tokens, its edges are theirs
abbrev pub IsByTokens : Row → Type 0
IsByTokens row = Follow row.edges row.read
