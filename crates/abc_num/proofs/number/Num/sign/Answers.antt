use Rattle.std.proofs.Common.{arith}
use Rattle.abc_num.proofs.LowestTerms.{whole_is_number}
use Rattle.abc_num.proofs.number.Num.sign.Goals as goal

pub of_parts-requires-clause-number : goal.of_parts-requires-clause-number
of_parts-requires-clause-number c = whole_is_number c.parts-x.result.negative c.min.result (omega arith)
