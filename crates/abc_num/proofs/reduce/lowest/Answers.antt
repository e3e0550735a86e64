use Rattle.std.proofs.Math.Nat.{div-mul_cancel}
use Rattle.abc_num.proofs.Divisors.{coprime_one, factor_positive}
use Rattle.abc_num.proofs.LowestTerms.{divisor_pos, parts_coprime, same_parts}
use Rattle.abc_num.proofs.Ratios.{IsRatio-scaled}
use Rattle.abc_num.proofs.reduce.lowest.Goals as goal

pub bounded-requires-clause-lowest : goal.bounded-requires-clause-lowest
bounded-requires-clause-lowest c = coprime_one c.args.a

pub nonzero_div-a : goal.nonzero_div-a
nonzero_div-a c = divisor_pos c.args.a c.args.b _ c.requires c.gcd-divisor.ensures

pub nonzero_div-b : goal.nonzero_div-b
nonzero_div-b c = divisor_pos c.args.a c.args.b _ c.requires c.gcd-divisor.ensures

pub bounded-requires-2-clause-lowest : goal.bounded-requires-2-clause-lowest
bounded-requires-2-clause-lowest c = parts_coprime c.args.a c.args.b _ c.requires c.gcd-divisor.ensures

pub bounded-requires-2-clause-positive : goal.bounded-requires-2-clause-positive
bounded-requires-2-clause-positive c = factor_positive _ c.gcd-divisor.result c.args.b (div-mul_cancel _ c.gcd-divisor.ensures.1) c.requires

pub returns : goal.returns
returns c =
    let g = c.gcd-divisor.result in
    let i = c.gcd-divisor.ensures in
    let bottom = factor_positive _ g c.args.b (div-mul_cancel g i.1) c.requires in
    IsRatio-scaled c.args.negative _ _ c.args.a c.args.b c.bounded-2.result bottom c.requires (same_parts c.args.a c.args.b g i) c.bounded-2.ensures
