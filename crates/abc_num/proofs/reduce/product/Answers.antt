use Rattle.std.proofs.Common.{◌<◌, ◌*◌, ◌/◌, ◌^◌, arith}
use Rattle.abc_num.proofs.Products.{divisors_pos, bottom_pos, product_coprime, product_ratio, product_top, product_bottom}
use Rattle.abc_num.proofs.Ratios.{IsRatio-none}
use Rattle.abc_num.proofs.reduce.product.Goals as goal

pub nonzero_div-a : goal.nonzero_div-a
nonzero_div-a c = (divisors_pos _ _ _ _ _ _ c.requires.left_lowest c.requires.right_lowest c.gcd-left.ensures c.gcd-right.ensures c.requires.left_positive c.requires.right_positive).0

pub nonzero_div-c : goal.nonzero_div-c
nonzero_div-c c = (divisors_pos _ _ _ _ _ _ c.requires.left_lowest c.requires.right_lowest c.gcd-left.ensures c.gcd-right.ensures c.requires.left_positive c.requires.right_positive).1

pub nonzero_div-b : goal.nonzero_div-b
nonzero_div-b c = (divisors_pos _ _ _ _ _ _ c.requires.left_lowest c.requires.right_lowest c.gcd-left.ensures c.gcd-right.ensures c.requires.left_positive c.requires.right_positive).1

pub nonzero_div-d : goal.nonzero_div-d
nonzero_div-d c = (divisors_pos _ _ _ _ _ _ c.requires.left_lowest c.requires.right_lowest c.gcd-left.ensures c.gcd-right.ensures c.requires.left_positive c.requires.right_positive).0

pub returns-in_default : goal.returns-in_default
returns-in_default c =
    let past : c.args.a / c.gcd-left.result * (c.args.c / c.gcd-right.result) < 2 ^ 128 → ⊥ = c.in_default.ensures in
    IsRatio-none _ _ (product_top _ _ _ _ _ _ c.requires.left_lowest c.requires.right_lowest c.gcd-left.ensures c.gcd-right.ensures c.requires.left_positive c.requires.right_positive c.args.negative (omega (arith, past)))

pub returns-in_default-checked_mul : goal.returns-in_default-checked_mul
returns-in_default-checked_mul c =
    let past : c.args.b / c.gcd-right.result * (c.args.d / c.gcd-left.result) < 2 ^ 128 → ⊥ = c.in_default-checked_mul.ensures in
    IsRatio-none _ _ (product_bottom _ _ _ _ _ _ c.requires.left_lowest c.requires.right_lowest c.gcd-left.ensures c.gcd-right.ensures c.requires.left_positive c.requires.right_positive c.args.negative (omega (arith, past)))

pub bounded-requires-clause-lowest : goal.bounded-requires-clause-lowest
bounded-requires-clause-lowest c =
    rw (c.in-Some.ensures.1, c.in-Some-checked_mul.ensures.1) (product_coprime _ _ _ _ _ _ c.requires.left_lowest c.requires.right_lowest c.gcd-left.ensures c.gcd-right.ensures c.requires.left_positive c.requires.right_positive)

pub bounded-requires-clause-positive : goal.bounded-requires-clause-positive
bounded-requires-clause-positive c =
    rw c.in-Some-checked_mul.ensures.1 (bottom_pos _ _ _ _ _ _ c.requires.left_lowest c.requires.right_lowest c.gcd-left.ensures c.gcd-right.ensures c.requires.left_positive c.requires.right_positive)

pub returns : goal.returns
returns c =
    product_ratio _ _ _ _ _ _ c.requires.left_lowest c.requires.right_lowest c.gcd-left.ensures c.gcd-right.ensures c.requires.left_positive c.requires.right_positive c.args.negative c.bounded.result
    (rw (c.in-Some.ensures.1, c.in-Some-checked_mul.ensures.1) at c.bounded.ensures)
