-- Whether it is true of each name in the parts of a formula.
use Rattle.std.specs.Prelude.{ℕ, Bool}
use Rattle.abc_tree.specs.Regular.{is_value_kind}
use Rattle.abc_tree.specs.declared.formulas.Fill.{Fill, fold-Fill}
use Rattle.abc_tree.specs.declared.formulas.Link.{Link}
use Rattle.abc_tree.specs.declared.formulas.Pair.{Pair, fold-Pair}
use Rattle.abc_tree.specs.declared.formulas.Piece.{Piece, fold-Piece}
use Rattle.abc_expressions.specs.NamesOfTrees.{expression_names_are, fill_names_are, pair_names_are, piece_names_are, names_are}
use Rattle.abc_tree.specs.declared.formulas.Expr.{Expr}
use Rattle.abc_clauses.specs.Formulas.{fit}
use Rattle.abc_clauses.specs.Names.{Kinds, refinement_at}

-- a name is no refinement, or one of expressions
abbrev pub gives_value : Kinds → ℕ → Bool
gives_value kinds i = is_value_kind (refinement_at kinds i)

module _ (is : ℕ → Bool) where
  abbrev pub names_of_fill : Fill → Bool
  names_of_fill = fold-Fill Bool Bool Bool Bool (expression_names_are is) (fill_names_are is) (piece_names_are is) (pair_names_are is)

  abbrev pub names_of_piece : Piece → Bool
  names_of_piece = fold-Piece Bool Bool Bool Bool (expression_names_are is) (fill_names_are is) (piece_names_are is) (pair_names_are is)

  abbrev pub names_of_pair : Pair → Bool
  names_of_pair = fold-Pair Bool Bool Bool Bool (expression_names_are is) (fill_names_are is) (piece_names_are is) (pair_names_are is)

  abbrev pub address_is_fit : Expr → Bool
  address_is_fit e = (fit is e).address

  abbrev pub names_of_link : Link → Bool
  names_of_link link = names_are is link.right
