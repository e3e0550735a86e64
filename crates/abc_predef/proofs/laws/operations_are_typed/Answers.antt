use Rattle.abc_predef.proofs.Signatures.{op_is, operands_are, result_is}
use Rattle.abc_predef.proofs.laws.operations_are_typed.Goals as goal

pub returns : goal.returns
returns c o = (op_is o, operands_are o, result_is o)
