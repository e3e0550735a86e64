use Rattle.std.proofs.Common.{◌≤◌, ◌^◌, pos, sym, subst, arith, ℤ, inl, inr}
use Rattle.abc_num.specs.Ratio.{IsRatio}
use Rattle.abc_num.proofs.Digits.{power-positive}
use Rattle.abc_num.proofs.Powers.{coprime_power, no_power, int_pow-even, int_pow-odd}
use Rattle.abc_num.proofs.Ratios.{IsRatio-none}
use Rattle.abc_num.proofs.power.power_of_ratio.Goals as goal

pub returns-in_default : goal.returns-in_default
returns-in_default c =
    let past : 2 ^ 127 ≤ c.args.a ^ c.args.exponent = omega (arith, c.in_default.ensures.none) in
    IsRatio-none _ _ (no_power c.args.negative c.args.a c.args.b c.args.exponent c.requires.lowest c.requires.positive (inl past))

pub returns-in_default-power : goal.returns-in_default-power
returns-in_default-power c =
    let past : 2 ^ 63 ≤ c.args.b ^ c.args.exponent = omega (arith, c.in_default-power.ensures.none) in
    IsRatio-none _ _ (no_power c.args.negative c.args.a c.args.b c.args.exponent c.requires.lowest c.requires.positive (inr past))

pub bounded-requires-clause-lowest : goal.bounded-requires-clause-lowest
bounded-requires-clause-lowest c = rw (c.in-Some.ensures.some, c.in-Some-power.ensures.some) (coprime_power c.args.a c.args.b c.args.exponent c.requires.lowest)

pub bounded-requires-clause-positive : goal.bounded-requires-clause-positive
bounded-requires-clause-positive c = rw c.in-Some-power.ensures.some (power-positive c.args.b c.args.exponent c.requires.positive)

pub bounded-requires-else-exponent-eq0-clause-lowest : goal.bounded-requires-else-exponent-eq0-clause-lowest
bounded-requires-else-exponent-eq0-clause-lowest c = rw (c.in-Some.ensures.some, c.in-Some-power.ensures.some) (coprime_power c.args.a c.args.b c.args.exponent c.requires.lowest)

pub bounded-requires-else-exponent-eq0-clause-positive : goal.bounded-requires-else-exponent-eq0-clause-positive
bounded-requires-else-exponent-eq0-clause-positive c = rw c.in-Some-power.ensures.some (power-positive c.args.b c.args.exponent c.requires.positive)

pub returns-then-exponent-eq0 : goal.returns-then-exponent-eq0
returns-then-exponent-eq0 c =
    let P : ℤ → Type 0 = λ z. IsRatio z (pos (c.args.b ^ c.args.exponent)) c.bounded.result in
    subst P (sym (int_pow-even c.args.negative c.args.a c.args.exponent c.if-exponent-eq0.true)) (rw (c.in-Some.ensures.some, c.in-Some-power.ensures.some) at c.bounded.ensures)

pub returns-else-exponent-eq0 : goal.returns-else-exponent-eq0
returns-else-exponent-eq0 c =
    let P : ℤ → Type 0 = λ z. IsRatio z (pos (c.args.b ^ c.args.exponent)) c.bounded-else-exponent-eq0.result in
    subst P (sym (int_pow-odd c.args.negative c.args.a c.args.exponent c.if-exponent-eq0.false)) (rw (c.in-Some.ensures.some, c.in-Some-power.ensures.some) at c.bounded-else-exponent-eq0.ensures)
