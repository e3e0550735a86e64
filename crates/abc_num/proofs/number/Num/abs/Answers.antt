use Rattle.std.proofs.Common.{false}
use Rattle.abc_num.proofs.LowestTerms.{number-from_parts}
use Rattle.abc_num.proofs.number.Num.abs.Goals as goal

pub of_parts-requires-clause-number : goal.of_parts-requires-clause-number
of_parts-requires-clause-number c = number-from_parts false c.parts-x.result.top c.parts-x.result.bottom c.parts-x.ensures.parts
