use Rattle.abc_expressions.proofs.Leaves.{number_is, no_number}
use Rattle.abc_expressions.proofs.tree.number.Goals as goal

pub returns-in-Ok : goal.returns-in-Ok
returns-in-Ok c = number_is c.bytes.result.now c.args.digits.now _ c.bytes.ensures c.in-Ok.ensures.ok

pub returns-in-Err : goal.returns-in-Err
returns-in-Err c = no_number c.bytes.result.now c.args.digits.now c.bytes.ensures c.in-Err.ensures.bad
