-- The heights of the expressions in a filler, a piece and a pair.
use Rattle.std.specs.Prelude.{ℕ, List}
use Rattle.abc_tree.specs.declared.formulas.Fill.{Fill, fold-Fill}
use Rattle.abc_tree.specs.declared.formulas.Piece.{Piece, fold-Piece}
use Rattle.abc_tree.specs.declared.formulas.Pair.{Pair, fold-Pair}
use Rattle.abc_tree.specs.Height.{height_over, fill_heights, piece_heights, pair_heights}

abbrev pub fill_height : Fill → List ℕ
fill_height = fold-Fill ℕ (List ℕ) (List ℕ) (List ℕ) height_over fill_heights piece_heights pair_heights

abbrev pub piece_height : Piece → List ℕ
piece_height = fold-Piece ℕ (List ℕ) (List ℕ) (List ℕ) height_over fill_heights piece_heights pair_heights

abbrev pub pair_height : Pair → List ℕ
pair_height = fold-Pair ℕ (List ℕ) (List ℕ) (List ℕ) height_over fill_heights piece_heights pair_heights
