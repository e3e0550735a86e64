use Rattle.std.proofs.Common.{◌∙◌}
use Rattle.abc_num.proofs.Signs.{signed_zero}
use Rattle.abc_num.proofs.Ratios.{IsRatio-not_zero}
use Rattle.abc_num.proofs.number.Num.modulo.Goals as goal

pub returns-clause-zero : goal.returns-clause-zero
returns-clause-zero c =
    (λ e. absurd (IsRatio-not_zero _ _ _ c.rest.ensures e), λ z. absurd (c.if-y-eq0.false (signed_zero _ _ (c.parts-y.ensures.numerator ∙ z))))

pub returns-clause-value : goal.returns-clause-value
returns-clause-value c _ =
    rw (c.parts-x.ensures.numerator, c.parts-y.ensures.numerator, c.parts-x.ensures.denominator, c.parts-y.ensures.denominator) at c.rest.ensures
