use Rattle.std.proofs.Common.{◌≡◌, drop, map}
use Rattle.abc_tree.specs.Regular.{is_literal, every}
use Rattle.abc_clauses.specs.inner.Literals.{is_fill_literal, is_pair_literal}
use Rattle.abc_clauses.proofs.literal.+literal.Given as goal

abbrev pub invariant-are_literal_fills-loop-fill : goal.invariant-are_literal_fills-loop-fill
invariant-are_literal_fills-loop-fill l = every (map is_fill_literal (drop l.fill-index l.fills)) ≡ every (map is_fill_literal l.fills)

abbrev pub invariant-are_literal_pairs-loop-pair : goal.invariant-are_literal_pairs-loop-pair
invariant-are_literal_pairs-loop-pair l = every (map is_pair_literal (drop l.pair-index l.pairs)) ≡ every (map is_pair_literal l.pairs)

abbrev pub invariant-are_literals-loop-part : goal.invariant-are_literals-loop-part
invariant-are_literals-loop-part l = every (map is_literal (drop l.part-index l.parts)) ≡ every (map is_literal l.parts)
