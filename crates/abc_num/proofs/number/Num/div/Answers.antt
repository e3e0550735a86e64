use Rattle.std.proofs.Common.{◌∙◌, arith}
use Rattle.abc_num.proofs.Signs.{IsRatio-quotient, signed_zero}
use Rattle.abc_num.proofs.Ratios.{IsRatio-not_zero}
use Rattle.abc_num.proofs.number.Num.div.Goals as goal

pub returns-clause-zero : goal.returns-clause-zero
returns-clause-zero c =
    (λ e. absurd (IsRatio-not_zero _ _ _ c.product.ensures e), λ z. absurd (c.if-y-eq0.false (signed_zero _ _ (c.parts-y.ensures.numerator ∙ z))))

pub returns-clause-value : goal.returns-clause-value
returns-clause-value c _ =
    let x = c.parts-x.result in
    let y = c.parts-y.result in
    let q = IsRatio-quotient x.negative y.negative x.top x.bottom y.top y.bottom c.product.result c.parts-x.ensures.parts.positive (omega (arith, c.if-y-eq0.false)) c.product.ensures in
    rw (c.parts-x.ensures.numerator, c.parts-y.ensures.numerator, c.parts-x.ensures.denominator, c.parts-y.ensures.denominator) at q
