use Rattle.std.proofs.Common.{◌≡◌, ◌≢◌, ℤ, pos, subst, sym, ◌∙◌, ◌<◌, ◌*◌, ◌%◌, ◌*ℤ◌}
use Rattle.abc_num.specs.Number.{signed}
use Rattle.abc_num.specs.Ratio.{IsRatio}
use Rattle.abc_num.specs.Rounding.{floor_mod}
use Rattle.abc_num.proofs.Ratios.{product_pos}
use Rattle.abc_num.proofs.Rests.{rest_none, rest_same, rest_apart}
use Rattle.abc_num.proofs.arithmetic.rest.Goals as goal
use Rattle.abc_num.proofs.arithmetic.rest.Goals.{then-size-eq0-via-then-size-eq0, then-size-eq0-via-else-size-eq0+then-x-y}

pub returns-then-size-eq0 : goal.returns-then-size-eq0
returns-then-size-eq0 c =
    let x = c.args.x in
    let y = c.args.y in
    let h : 0 < y.top * x.bottom = product_pos y.top x.bottom c.requires.divisor c.requires.left.positive in
    let size = rw c.in-Some.ensures.1 at c.rest_size-size.ensures in
    let P : ℤ → Type 0 = λ z. IsRatio z (pos (x.bottom * y.bottom)) c.lowest.result in
    let value : floor_mod (signed x.negative x.top *ℤ pos y.bottom) (signed y.negative y.top *ℤ pos x.bottom) ≡ signed y.negative ((x.top * y.bottom) % (y.top * x.bottom)) = elim c.then-size-eq0.branch [
      | then-size-eq0-via-then-size-eq0 w ↦ rest_none x.negative y.negative x.top x.bottom y.top y.bottom h (sym size ∙ w.if-size-eq0.true)
      | then-size-eq0-via-else-size-eq0+then-x-y w ↦ rest_same x.negative y.negative x.top x.bottom y.top y.bottom h w.if-x-y.true
    ] in
    subst P (sym value) (rw size at c.lowest.ensures)

pub returns : goal.returns
returns c =
    let x = c.args.x in
    let y = c.args.y in
    let h : 0 < y.top * x.bottom = product_pos y.top x.bottom c.requires.divisor c.requires.left.positive in
    let size = rw c.in-Some.ensures.1 at c.rest_size-size.ensures in
    let P : ℤ → Type 0 = λ z. IsRatio z (pos (x.bottom * y.bottom)) c.lowest-2.result in
    let some : (x.top * y.bottom) % (y.top * x.bottom) ≢ 0 = λ e. c.if-size-eq0.false (size ∙ e) in
    subst P (sym (rest_apart x.negative y.negative x.top x.bottom y.top y.bottom h c.if-x-y.false some)) (rw (size, c.in-Some.ensures.1) at c.lowest-2.ensures)
