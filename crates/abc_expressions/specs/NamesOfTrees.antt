-- What is true of the tokens of a line without a fault, and of each name of an expression.
use Rattle.std.specs.Prelude.{◌≡◌, ℕ, Bool, true, ◌&&◌, List, [], ◌∷◌}
use Rattle.std.specs.List.{list_all}
use Rattle.abc_num.specs.Characters.{is_character}
use Rattle.abc_tokens.specs.Kinds.{is_name}
use Rattle.abc_tree.specs.Regular.{Names, every, is_value_kind}
use Rattle.abc_tree.specs.declared.formulas.Expr.{Expr, fold-Expr}
use Rattle.abc_tree.specs.declared.formulas.Expr.TheOpen.{Expr-F, Fill-F, Piece-F, Pair-F}
use Rattle.abc_expressions.specs.declared.lexemes.Lexeme.{Lexeme}
use Rattle.abc_expressions.specs.declared.lexemes.Lexeme.TheVariants as t

-- the bytes of a name are one, and those of a text are characters
abbrev pub IsFine : Lexeme → Type 0
IsFine (t.Name x) = is_name x ≡ true
IsFine (t.Text bytes) = list_all is_character bytes ≡ true
IsFine (t.Number bytes) = Unit {0}
IsFine (t.Keyword x) = Unit {0}
IsFine (t.Sign sign) = Unit {0}
IsFine t.Other = Unit {0}

abbrev pub AreFine : List Lexeme → Type 0
AreFine [] = Unit {0}
AreFine (token ∷ ts) = IsFine token × AreFine ts

module _ (is : ℕ → Bool) where
  abbrev pub piece_names_are : Piece-F Bool Bool Bool Bool → Bool
  piece_names_are (Piece-F.Chars bytes) = true
  piece_names_are (Piece-F.Conversion e) = e

  abbrev pub fill_names_are : Fill-F Bool Bool Bool Bool → Bool
  fill_names_are (Fill-F.One e) = e
  fill_names_are (Fill-F.Range from to) = from && to

  abbrev pub pair_names_are : Pair-F Bool Bool Bool Bool → Bool
  pair_names_are pair = pair.key && pair.associate

  abbrev pub expression_names_are : Expr-F Bool Bool Bool Bool → Bool
  expression_names_are (Expr-F.Number n) = true
  expression_names_are (Expr-F.Text pieces) = every pieces
  expression_names_are (Expr-F.Name i) = is i.0
  expression_names_are (Expr-F.Compound parts) = every parts
  expression_names_are Expr-F.Empty = true
  expression_names_are (Expr-F.List fills) = every fills
  expression_names_are (Expr-F.Table pairs) = every pairs
  expression_names_are (Expr-F.Select t k) = t && k
  expression_names_are (Expr-F.Apply1 op x) = x
  expression_names_are (Expr-F.Apply2 op x y) = x && y
  expression_names_are (Expr-F.Call template actuals) = every actuals

  -- of the number of each name of the expression it is true
  abbrev pub names_are : Expr → Bool
  names_are = fold-Expr Bool Bool Bool Bool expression_names_are fill_names_are piece_names_are pair_names_are

-- no name of the expression is a refinement of another kind than expressions
abbrev pub names_give_values : Names → Expr → Bool
names_give_values names = names_are (λ i. is_value_kind (names.refinement i))
