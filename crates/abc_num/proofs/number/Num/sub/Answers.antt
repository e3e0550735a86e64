use Rattle.std.proofs.Common.{pos, subst, ◌+ℤ◌, ◌*ℤ◌, ◌*◌}
use Rattle.abc_num.specs.Number.{Fraction}
use Rattle.abc_num.specs.Ratio.{IsRatio}
use Rattle.abc_num.proofs.Sums.{add-neg}
use Rattle.abc_num.proofs.number.Num.sub.Goals as goal

pub returns : goal.returns
returns c =
    let x = c.args.self.now in
    let P : Fraction → Type 0 = λ y. IsRatio (x.numerator *ℤ pos y.denominator +ℤ y.numerator *ℤ pos x.denominator) (pos (x.denominator * y.denominator)) c.sum.result in
    let s = rw (c.parts.ensures.numerator, c.parts-2.ensures.numerator, c.parts.ensures.denominator, c.parts-2.ensures.denominator) at c.sum.ensures in
    rw add-neg at (subst P c.neg.ensures s)
