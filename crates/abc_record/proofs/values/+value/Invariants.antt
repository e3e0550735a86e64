use Rattle.std.proofs.Common.{◌≡◌, ◌-◌, ◌+◌, ◌*◌}
use Rattle.abc_record.specs.inner.Reading.{times, value_of, pair_of}
use Rattle.abc_record.proofs.Times.{with_front}
use Rattle.abc_record.proofs.values.+value.Given as goal

abbrev pub decreases-value_of : goal.decreases-value_of
decreases-value_of l = 5 * l.levels

abbrev pub decreases-tagged : goal.decreases-tagged
decreases-tagged l = 5 * l.levels + 4

abbrev pub decreases-several_of : goal.decreases-several_of
decreases-several_of l = 5 * l.levels + 3

abbrev pub decreases-values_of : goal.decreases-values_of
decreases-values_of l = 5 * l.levels + 1

abbrev pub decreases-several_pairs_of : goal.decreases-several_pairs_of
decreases-several_pairs_of l = 5 * l.levels + 3

abbrev pub decreases-pairs_of : goal.decreases-pairs_of
decreases-pairs_of l = 5 * l.levels + 2

abbrev pub decreases-pair_of : goal.decreases-pair_of
decreases-pair_of l = 5 * l.levels + 1

abbrev pub invariant-values_of-loop : goal.invariant-values_of-loop
invariant-values_of-loop l = with_front l.values.items (times (value_of l.levels) (l.count - l.counter) l.rest) ≡ times (value_of l.levels) l.count l.bytes

abbrev pub invariant-pairs_of-loop : goal.invariant-pairs_of-loop
invariant-pairs_of-loop l = with_front l.pairs.items (times (pair_of (value_of l.levels)) (l.count - l.counter) l.rest) ≡ times (pair_of (value_of l.levels)) l.count l.bytes
