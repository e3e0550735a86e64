use Rattle.std.proofs.Common.{◌<◌, ◌+◌, ◌*◌, ◌^◌, arith}
use Rattle.abc_num.specs.Literal.{digits_value}
use Rattle.abc_num.proofs.Divisors.{coprime_more}
use Rattle.abc_num.proofs.Ratios.{IsRatio-none}
use Rattle.abc_num.proofs.Tails.{whole_and_tail, whole_too_great, whole_size}
use Rattle.abc_num.proofs.literal.read_parts.Goals as goal

pub returns-in_default : goal.returns-in_default
returns-in_default c = IsRatio-none _ _ (c.in_default.ensures.none (digits_value c.args.front.now))

pub returns-in_default-read_digits : goal.returns-in_default-read_digits
returns-in_default-read_digits c =
    let x = c.in-Some.rest in
    let tail = c.in-Some.ensures.some in
    let least = whole_size (digits_value c.args.front.now) x.top x.bottom tail.proper in
    whole_too_great c.args.decimals.now x.top x.bottom (digits_value c.args.front.now) tail (omega (arith, least, c.in_default-read_digits.ensures.none))

pub returns-in_default-checked_mul : goal.returns-in_default-checked_mul
returns-in_default-checked_mul c =
    let x = c.in-Some.rest in
    let w = c.in-Some-read_digits.whole in
    let past : w * x.bottom < 2 ^ 128 → ⊥ = c.in_default-checked_mul.ensures in
    let great = whole_too_great c.args.decimals.now x.top x.bottom w c.in-Some.ensures.some (omega (arith, past)) in
    rw c.in-Some-read_digits.ensures.some at great

pub returns-in_default-checked_add : goal.returns-in_default-checked_add
returns-in_default-checked_add c =
    let x = c.in-Some.rest in
    let w = c.in-Some-read_digits.whole in
    let product = c.in-Some-checked_mul.ensures.1 in
    let past : c.in-Some-checked_mul.top + x.top < 2 ^ 128 → ⊥ = c.in_default-checked_add.ensures in
    let great = whole_too_great c.args.decimals.now x.top x.bottom w c.in-Some.ensures.some (omega (arith, past, product)) in
    rw c.in-Some-read_digits.ensures.some at great

pub bounded-requires-clause-lowest : goal.bounded-requires-clause-lowest
bounded-requires-clause-lowest c =
    let x = c.in-Some.rest in
    rw (c.in-Some-checked_add.ensures.1, c.in-Some-checked_mul.ensures.1) (coprime_more c.in-Some-read_digits.whole x.top x.bottom c.in-Some.ensures.some.lowest)

pub returns : goal.returns
returns c =
    let x = c.in-Some.rest in
    let w = c.in-Some-read_digits.whole in
    let ratio_of_bounded = rw (c.in-Some-checked_add.ensures.1, c.in-Some-checked_mul.ensures.1) at c.bounded.ensures in
    let value = whole_and_tail c.args.decimals.now x.top x.bottom w c.bounded.result c.in-Some.ensures.some ratio_of_bounded in
    rw c.in-Some-read_digits.ensures.some at value
