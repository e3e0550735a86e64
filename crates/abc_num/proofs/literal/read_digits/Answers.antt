use Rattle.std.proofs.Common.{◌+◌, ◌*◌, ◌<◌, ◌^◌, arith}
use Rattle.abc_num.proofs.Digits.{digits_value-more, digits_value-take}
use Rattle.abc_num.proofs.literal.read_digits.Goals as goal

pub returns-in_err-checked_mul-clause-none : goal.returns-in_err-checked_mul-clause-none
returns-in_err-checked_mul-clause-none c =
    let more = digits_value-more c.args.b.now c.loop-c.c-index (omega arith) in
    let front = digits_value-take c.args.b.now (c.loop-c.c-index + 1) in
    let past : c.loop-c.value * 10 < 2 ^ 128 → ⊥ = c.in_err-checked_mul.ensures in
    rw c.from_residual.ensures (omega (arith, more, front, past, c.loop-c.invariant))

pub returns-in_err-value-clause-none : goal.returns-in_err-value-clause-none
returns-in_err-value-clause-none c =
    let more = digits_value-more c.args.b.now c.loop-c.c-index (omega arith) in
    let front = digits_value-take c.args.b.now (c.loop-c.c-index + 1) in
    let past : c.in_ok-checked_mul.field-0 + c.from.result < 2 ^ 128 → ⊥ = c.in_err-value.ensures in
    let tens = c.in_ok-checked_mul.ensures in
    rw c.from_residual-in_err-value.ensures (omega (arith, more, front, past, tens, c.loop-c.invariant))

pub loop-c-preserved : goal.loop-c-preserved
loop-c-preserved c =
    let more = digits_value-more c.args.b.now c.loop-c.c-index (omega arith) in
    let tens = c.in_ok-checked_mul.ensures in
    let sum = c.in_ok-value.ensures in
    omega (arith, more, tens, sum, c.loop-c.invariant)
