use Rattle.std.proofs.Common.{◌≡◌, map, drop}
use Rattle.abc_tree.specs.Calls.{calls_in, calls_in_piece, calls_in_fill, calls_in_pair, with_calls}
use Rattle.abc_tree.specs.Lists.{flat}
use Rattle.abc_tree.proofs.called.Called.+calls.Given as goal

abbrev pub invariant-expressions-loop-e : goal.invariant-expressions-loop-e
invariant-expressions-loop-e l = with_calls l.initial.self (flat (map calls_in l.es)) ≡ with_calls l.self (flat (map calls_in (drop l.e-index l.es)))

abbrev pub invariant-fills-loop-fill : goal.invariant-fills-loop-fill
invariant-fills-loop-fill l = with_calls l.initial.self (flat (map calls_in_fill l.fills)) ≡ with_calls l.self (flat (map calls_in_fill (drop l.fill-index l.fills)))

abbrev pub invariant-pairs-loop-pair : goal.invariant-pairs-loop-pair
invariant-pairs-loop-pair l = with_calls l.initial.self (flat (map calls_in_pair l.pairs)) ≡ with_calls l.self (flat (map calls_in_pair (drop l.pair-index l.pairs)))

abbrev pub invariant-pieces-loop-piece : goal.invariant-pieces-loop-piece
invariant-pieces-loop-piece l = with_calls l.initial.self (flat (map calls_in_piece l.pieces)) ≡ with_calls l.self (flat (map calls_in_piece (drop l.piece-index l.pieces)))
