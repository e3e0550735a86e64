use Rattle.std.proofs.Common.{◌≡◌}
use Rattle.abc_value.specs.Items.{numbers_from}
use Rattle.abc_value.proofs.items.range_of_numbers.Given as goal

abbrev pub invariant-loop-k : goal.invariant-loop-k
invariant-loop-k l = l.items ≡ numbers_from l.p l.k
