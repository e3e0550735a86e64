-- In pairs that rise, each key is less than all behind it.
use Rattle.std.proofs.Common.{◌≡◌}
use Rattle.std.specs.declared.cmp.Ordering.TheVariants.{Less}
use Rattle.abc_value.specs.Tree.{Tree, Pairs, no_pairs, pair}
use Rattle.abc_value.specs.Order.{order}
use Rattle.abc_value.specs.Regular.{IsRegular, AllRegularPairs, IsRising}
use Rattle.abc_value.proofs.ordering.OrderLaws.{order-trans}

pub tail_rising : (k a : Tree) (ps : Pairs) → IsRising (pair k a ps) → IsRising ps
tail_rising k a no_pairs h = tt
tail_rising k a (pair l b ps) h = h.1

-- the key is less than all keys
abbrev pub Below : Tree → Pairs → Type 0
Below k no_pairs = Unit {0}
Below k (pair l b ps) = (order k l ≡ Less) × Below k ps

below_more : (k l : Tree) (ps : Pairs) → IsRegular k → IsRegular l → AllRegularPairs ps → order k l ≡ Less → Below l ps → Below k ps
unfolding AllRegularPairs
below_more k l no_pairs rk rl all h b = tt
below_more k l (pair m c ps) rk rl all h b = (order-trans k l m rk rl all.0 h b.0, below_more k l ps rk rl all.2 h b.1)

pub below_all : (k a : Tree) (ps : Pairs) → IsRegular k → AllRegularPairs ps → IsRising (pair k a ps) → Below k ps
unfolding AllRegularPairs
below_all k a no_pairs rk all h = tt
below_all k a (pair l b ps) rk all h = (h.0, below_more k l ps rk all.0 all.2 h.0 (below_all l b ps all.0 all.2 h.1))
