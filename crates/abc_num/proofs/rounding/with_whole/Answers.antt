use Rattle.std.proofs.Common.{◌*◌, ◌+◌}
use Rattle.std.proofs.Math.Nat.{div-mul_cancel}
use Rattle.abc_num.proofs.LowestTerms.{divisor_pos, parts_coprime, bottom_too_great}
use Rattle.abc_num.proofs.Divisors.{coprime_more, factor_positive}
use Rattle.abc_num.proofs.Ratios.{IsRatio-none, IsRatio-scaled}
use Rattle.abc_num.proofs.Decimal.{whole_sides}
use Rattle.abc_num.proofs.rounding.with_whole.Goals as goal

pub nonzero_div-bottom : goal.nonzero_div-bottom
nonzero_div-bottom c = divisor_pos c.args.a c.args.b _ c.requires.parts.1 c.gcd-divisor.ensures

pub nonzero_div-a : goal.nonzero_div-a
nonzero_div-a c = divisor_pos c.args.a c.args.b _ c.requires.parts.1 c.gcd-divisor.ensures

pub bounded-requires-clause-lowest : goal.bounded-requires-clause-lowest
bounded-requires-clause-lowest c = coprime_more c.args.whole _ _ (parts_coprime c.args.a c.args.b _ c.requires.parts.1 c.gcd-divisor.ensures)

pub bounded-requires-clause-positive : goal.bounded-requires-clause-positive
bounded-requires-clause-positive c = factor_positive _ c.gcd-divisor.result c.args.b (div-mul_cancel _ c.gcd-divisor.ensures.1) c.requires.parts.1

pub returns : goal.returns
returns c =
    let g = c.gcd-divisor.result in
    let bottom = factor_positive _ g c.args.b (div-mul_cancel g c.gcd-divisor.ensures.1) c.requires.parts.1 in
    IsRatio-scaled c.args.negative _ _ (c.args.whole * c.args.b + c.args.a) c.args.b c.bounded.result bottom c.requires.parts.1 (whole_sides c.args.whole c.args.a c.args.b g c.gcd-divisor.ensures) c.bounded.ensures

pub returns-then-bottom : goal.returns-then-bottom
returns-then-bottom c =
    let g = c.gcd-divisor.result in
    let bottom = factor_positive _ g c.args.b (div-mul_cancel g c.gcd-divisor.ensures.1) c.requires.parts.1 in
    let lowest = coprime_more c.args.whole _ _ (parts_coprime c.args.a c.args.b g c.requires.parts.1 c.gcd-divisor.ensures) in
    IsRatio-scaled c.args.negative _ _ (c.args.whole * c.args.b + c.args.a) c.args.b _ bottom c.requires.parts.1 (whole_sides c.args.whole c.args.a c.args.b g c.gcd-divisor.ensures)
    (IsRatio-none _ _ (bottom_too_great c.args.negative _ _ bottom lowest c.if-bottom.true))
