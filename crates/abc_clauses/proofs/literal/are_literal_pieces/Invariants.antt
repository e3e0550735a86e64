use Rattle.std.proofs.Common.{◌≡◌, drop, map}
use Rattle.abc_tree.specs.Regular.{every}
use Rattle.abc_clauses.specs.inner.Literals.{is_piece_literal}
use Rattle.abc_clauses.proofs.literal.are_literal_pieces.Given as goal

abbrev pub invariant-loop-piece : goal.invariant-loop-piece
invariant-loop-piece l = every (map is_piece_literal (drop l.piece-index l.pieces)) ≡ every (map is_piece_literal l.pieces)
