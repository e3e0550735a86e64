use Rattle.std.proofs.Common.{not}
use Rattle.abc_num.proofs.LowestTerms.{number-from_parts}
use Rattle.abc_num.proofs.number.Num.neg.Goals as goal

pub of_parts-requires-clause-number : goal.of_parts-requires-clause-number
of_parts-requires-clause-number c = number-from_parts (not c.parts-x.result.negative) c.parts-x.result.top c.parts-x.result.bottom c.parts-x.ensures.parts
