use Rattle.abc_num.proofs.Signs.{signed-product}
use Rattle.abc_num.proofs.number.Num.mul.Goals as goal

pub returns : goal.returns
returns c =
    let x = c.parts-x.result in
    let y = c.parts-y.result in
    let top = signed-product x.negative y.negative x.top y.top in
    rw (top, c.parts-x.ensures.numerator, c.parts-y.ensures.numerator, c.parts-x.ensures.denominator, c.parts-y.ensures.denominator) at c.product.ensures
