use Rattle.std.proofs.Common.{arith, refl, inl}
use Rattle.std.proofs.lemmas.Int.{ints}
use Rattle.abc_num.specs.Number.{IsNumber}
use Rattle.abc_num.proofs.number.Num.whole.Goals as goal

pub invariant_of-result : goal.invariant_of-result
unfolding IsNumber
invariant_of-result c = inl (refl, omega (arith, ints))
