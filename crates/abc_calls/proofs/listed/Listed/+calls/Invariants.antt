use Rattle.std.proofs.Common.{◌≡◌, map, drop}
use Rattle.abc_calls.specs.inner.Nodes.{nodes_in, nodes_in_piece, nodes_in_fill, nodes_in_pair, with_nodes}
use Rattle.abc_tree.specs.Lists.{flat}
use Rattle.abc_calls.proofs.listed.Listed.+calls.Given as goal

abbrev pub invariant-expressions-loop-i : goal.invariant-expressions-loop-i
invariant-expressions-loop-i l = with_nodes l.initial.self (flat (map nodes_in (drop l.from l.es))) ≡ with_nodes l.self (flat (map nodes_in (drop l.i l.es)))

abbrev pub invariant-fills-loop-fill : goal.invariant-fills-loop-fill
invariant-fills-loop-fill l = with_nodes l.initial.self (flat (map nodes_in_fill l.fills)) ≡ with_nodes l.self (flat (map nodes_in_fill (drop l.fill-index l.fills)))

abbrev pub invariant-pairs-loop-pair : goal.invariant-pairs-loop-pair
invariant-pairs-loop-pair l = with_nodes l.initial.self (flat (map nodes_in_pair l.pairs)) ≡ with_nodes l.self (flat (map nodes_in_pair (drop l.pair-index l.pairs)))

abbrev pub invariant-pieces-loop-piece : goal.invariant-pieces-loop-piece
invariant-pieces-loop-piece l = with_nodes l.initial.self (flat (map nodes_in_piece l.pieces)) ≡ with_nodes l.self (flat (map nodes_in_piece (drop l.piece-index l.pieces)))
