use Rattle.std.proofs.Common.{◌≡◌, ◌++◌, map, drop}
use Rattle.abc_state.specs.inner.Examples.{piece_example}
use Rattle.abc_state.proofs.examples.of_pieces.Given as goal

abbrev pub invariant-loop-piece : goal.invariant-loop-piece
invariant-loop-piece l = map piece_example l.pieces ≡ l.shapes.items ++ map piece_example (drop l.piece-index l.pieces)
