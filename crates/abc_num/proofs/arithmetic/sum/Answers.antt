use Rattle.std.proofs.Common.{◌^◌, ◌≤◌, max, arith}
use Rattle.abc_num.proofs.LowestTerms.{signed-*ℤ}
use Rattle.abc_num.proofs.Ratios.{IsRatio-none}
use Rattle.abc_num.proofs.Sums.{sum_none}
use Rattle.abc_num.proofs.arithmetic.sum.Goals as goal

pub returns : goal.returns
returns c =
    let x = c.args.x in
    let y = c.args.y in
    rw (signed-*ℤ x.negative x.top y.bottom, signed-*ℤ y.negative y.top x.bottom) c.signed_sum.ensures

pub returns-then-max : goal.returns-then-max
returns-then-max c =
    let x = c.args.x in
    let y = c.args.y in
    let wide : 2 ^ 63 ≤ max x.top y.top = omega (arith, c.max.ensures, c.if-max.true) in
    IsRatio-none _ _ (sum_none x.negative y.negative x.top x.bottom y.top y.bottom c.requires.left c.requires.right c.if-x-y.true wide)
