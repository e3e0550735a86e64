use Rattle.std.proofs.Common.{arith}
use Rattle.abc_num.proofs.Decimal.{tens-below, tens-at_most}
use Rattle.abc_num.proofs.rounding.power_of_ten.Goals as goal

pub overflow_mul-power : goal.overflow_mul-power
overflow_mul-power c = let p = tens-below c.loop.counter c.args.places 38 c.loop-test.true c.requires in record { fits = omega (arith, p, c.loop.invariant) }

pub returns-clause-small : goal.returns-clause-small
returns-clause-small c = let p = tens-at_most c.loop.counter 38 (omega (arith, c.loop.auto.counter-end, c.requires)) in omega (arith, p, c.loop.invariant)
