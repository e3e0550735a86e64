use Rattle.abc_num.proofs.LowestTerms.{whole_is_number}
use Rattle.abc_num.proofs.number.Num.numerator.Goals as goal

pub of_parts-requires-clause-number : goal.of_parts-requires-clause-number
of_parts-requires-clause-number c = whole_is_number _ _ c.parts-x.ensures.parts.top_fits
