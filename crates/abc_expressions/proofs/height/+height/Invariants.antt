use Rattle.std.proofs.Common.{◌<◌, ◌↔◌, map, drop}
use Rattle.abc_tree.specs.Height.{height, above}
use Rattle.abc_tree.specs.Lists.{flat}
use Rattle.abc_expressions.specs.inner.Heights.{fill_height, piece_height, pair_height}
use Rattle.abc_expressions.proofs.height.+height.Given as goal

abbrev pub invariant-a_part_reaches-loop-part : goal.invariant-a_part_reaches-loop-part
invariant-a_part_reaches-loop-part l = (l.least < above (map height (drop l.part-index l.parts))) ↔ (l.least < above (map height l.parts))

abbrev pub invariant-a_fill_reaches-loop-fill : goal.invariant-a_fill_reaches-loop-fill
invariant-a_fill_reaches-loop-fill l = (l.least < above (flat (map fill_height (drop l.fill-index l.fills)))) ↔ (l.least < above (flat (map fill_height l.fills)))

abbrev pub invariant-a_pair_reaches-loop-pair : goal.invariant-a_pair_reaches-loop-pair
invariant-a_pair_reaches-loop-pair l = (l.least < above (flat (map pair_height (drop l.pair-index l.pairs)))) ↔ (l.least < above (flat (map pair_height l.pairs)))

abbrev pub invariant-a_piece_reaches-loop-piece : goal.invariant-a_piece_reaches-loop-piece
invariant-a_piece_reaches-loop-piece l = (l.least < above (flat (map piece_height (drop l.piece-index l.pieces)))) ↔ (l.least < above (flat (map piece_height l.pieces)))
