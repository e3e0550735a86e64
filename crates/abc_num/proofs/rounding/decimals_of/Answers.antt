use Rattle.std.proofs.Common.{arith}
use Rattle.abc_num.proofs.Decimal.{tens-below, tens-at_most, digit-below}
use Rattle.abc_num.proofs.rounding.decimals_of.Goals as goal

pub overflow_mul-decimals : goal.overflow_mul-decimals
overflow_mul-decimals c =
    let p = tens-below c.loop.counter c.args.places 37 c.loop-test.true c.requires.places in
    record { fits = omega (arith, p, c.loop.invariant.power_is, c.loop.invariant.digits_less) }

pub overflow_add-decimals : goal.overflow_add-decimals
overflow_add-decimals c =
    let p = tens-below c.loop.counter c.args.places 37 c.loop-test.true c.requires.places in
    let digit = digit-below c.args.bottom c.loop.decimals.rest c.loop.invariant.rest_less in
    record { fits = omega (arith, p, digit, c.loop.invariant.power_is, c.loop.invariant.digits_less) }

pub overflow_mul-decimals-in-loop : goal.overflow_mul-decimals-in-loop
overflow_mul-decimals-in-loop c =
    let p = tens-below c.loop.counter c.args.places 37 c.loop-test.true c.requires.places in
    record { fits = omega (arith, p, c.loop.invariant.power_is) }

pub returns-clause-small : goal.returns-clause-small
returns-clause-small c = let p = tens-at_most c.loop.counter 37 (omega (arith, c.loop.auto.counter-end, c.requires.places)) in omega (arith, p, c.loop.invariant.power_is)
