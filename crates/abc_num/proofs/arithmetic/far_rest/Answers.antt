use Rattle.std.proofs.Common.{subst, pos, ◌*◌, ◌*ℤ◌, Bool}
use Rattle.abc_num.specs.Number.{signed}
use Rattle.abc_num.specs.Ratio.{IsRatio}
use Rattle.abc_num.specs.Rounding.{floor_mod}
use Rattle.abc_num.proofs.Rests.{far_same, far_apart}
use Rattle.abc_num.proofs.Ratios.{IsRatio-none}
use Rattle.abc_num.proofs.Signs.{beq_same}
use Rattle.abc_num.proofs.arithmetic.far_rest.Goals as goal

pub returns-then-x-y : goal.returns-then-x-y
returns-then-x-y c =
    let x = c.args.x in
    let y = c.args.y in
    let P : Bool → Type 0 = λ t. IsRatio (floor_mod (signed x.negative x.top *ℤ pos y.bottom) (signed t y.top *ℤ pos x.bottom)) (pos (x.bottom * y.bottom)) c.bounded.result in
    subst P (beq_same x.negative y.negative c.if-x-y.true) (far_same x.top x.bottom y.top y.bottom c.requires.left c.requires.right c.requires.far x.negative c.bounded.result c.bounded.ensures)

pub returns-else-x-y : goal.returns-else-x-y
returns-else-x-y c =
    let x = c.args.x in
    let y = c.args.y in
    IsRatio-none _ _ (far_apart x.top x.bottom y.top y.bottom c.requires.left c.requires.right c.requires.far x.negative y.negative c.if-x-y.false)
