use Rattle.std.proofs.Common.{false}
use Rattle.std.proofs.Common.{arith}
use Rattle.abc_num.proofs.LowestTerms.{whole_is_number}
use Rattle.abc_num.proofs.number.Num.denominator.Goals as goal

pub of_parts-requires-clause-number : goal.of_parts-requires-clause-number
of_parts-requires-clause-number c = whole_is_number false c.parts.result.bottom (omega (arith, c.parts.ensures.parts.bottom_fits))
