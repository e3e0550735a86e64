-- What the parts of an expression are as literals.
use Rattle.std.specs.Prelude.{Bool, Option}
use Rattle.abc_num.specs.Number.{Fraction}
use Rattle.abc_tree.specs.Regular.{AsLiteral, as_literal, fill_literal, piece_literal, pair_literal}
use Rattle.abc_tree.specs.declared.formulas.Expr.{Expr, fold-Expr}
use Rattle.abc_tree.specs.declared.formulas.Fill.{Fill, fold-Fill}
use Rattle.abc_tree.specs.declared.formulas.Pair.{Pair, fold-Pair}
use Rattle.abc_tree.specs.declared.formulas.Piece.{Piece, fold-Piece}

abbrev pub form_of : Expr → AsLiteral
form_of = fold-Expr AsLiteral Bool Bool Bool as_literal fill_literal piece_literal pair_literal

abbrev pub plain_of : Expr → Option Fraction
plain_of e = (form_of e).plain

abbrev pub is_signed : Expr → Bool
is_signed e = (form_of e).signed

abbrev pub is_fill_literal : Fill → Bool
is_fill_literal = fold-Fill AsLiteral Bool Bool Bool as_literal fill_literal piece_literal pair_literal

abbrev pub is_piece_literal : Piece → Bool
is_piece_literal = fold-Piece AsLiteral Bool Bool Bool as_literal fill_literal piece_literal pair_literal

abbrev pub is_pair_literal : Pair → Bool
is_pair_literal = fold-Pair AsLiteral Bool Bool Bool as_literal fill_literal piece_literal pair_literal
