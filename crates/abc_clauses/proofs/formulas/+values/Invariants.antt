use Rattle.std.proofs.Common.{◌≡◌, drop, map}
use Rattle.abc_tree.specs.Regular.{every}
use Rattle.abc_expressions.specs.NamesOfTrees.{names_are}
use Rattle.abc_clauses.specs.inner.Naming.{gives_value, names_of_fill, names_of_pair, names_of_piece}
use Rattle.abc_clauses.proofs.formulas.+values.Given as goal

abbrev pub invariant-values_fit-loop-part : goal.invariant-values_fit-loop-part
invariant-values_fit-loop-part l = every (map (names_are (gives_value l.kinds)) (drop l.part-index l.parts)) ≡ every (map (names_are (gives_value l.kinds)) l.parts)

abbrev pub invariant-fills_fit-loop-fill : goal.invariant-fills_fit-loop-fill
invariant-fills_fit-loop-fill l = every (map (names_of_fill (gives_value l.kinds)) (drop l.fill-index l.fills)) ≡ every (map (names_of_fill (gives_value l.kinds)) l.fills)

abbrev pub invariant-pairs_fit-loop-pair : goal.invariant-pairs_fit-loop-pair
invariant-pairs_fit-loop-pair l = every (map (names_of_pair (gives_value l.kinds)) (drop l.pair-index l.pairs)) ≡ every (map (names_of_pair (gives_value l.kinds)) l.pairs)

abbrev pub invariant-pieces_fit-loop-piece : goal.invariant-pieces_fit-loop-piece
invariant-pieces_fit-loop-piece l = every (map (names_of_piece (gives_value l.kinds)) (drop l.piece-index l.pieces)) ≡ every (map (names_of_piece (gives_value l.kinds)) l.pieces)
