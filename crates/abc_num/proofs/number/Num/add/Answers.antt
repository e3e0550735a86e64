use Rattle.abc_num.proofs.number.Num.add.Goals as goal

pub returns : goal.returns
returns c =
    rw (c.parts.ensures.numerator, c.parts-2.ensures.numerator, c.parts.ensures.denominator, c.parts-2.ensures.denominator) at c.sum.ensures
