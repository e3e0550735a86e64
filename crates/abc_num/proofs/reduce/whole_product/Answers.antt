use Rattle.std.proofs.Common.{◌*◌, ◌<◌, ◌^◌, arith}
use Rattle.abc_num.proofs.Divisors.{coprime_one}
use Rattle.abc_num.proofs.LowestTerms.{top_too_great}
use Rattle.abc_num.proofs.Ratios.{IsRatio-none}
use Rattle.abc_num.proofs.reduce.whole_product.Goals as goal

pub returns-in_default : goal.returns-in_default
returns-in_default c =
    let past : c.args.a * c.args.c < 2 ^ 128 → ⊥ = c.in_default.ensures in
    IsRatio-none _ _ (top_too_great c.args.negative (c.args.a * c.args.c) 1 (omega arith) (coprime_one _) (omega (arith, past)))

pub bounded-requires-clause-lowest : goal.bounded-requires-clause-lowest
bounded-requires-clause-lowest c = coprime_one _
