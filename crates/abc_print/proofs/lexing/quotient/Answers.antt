use Rattle.abc_print.proofs.Tokenwise.{quotient_refused, quotient_given}
use Rattle.abc_print.proofs.lexing.quotient.Goals as goal

pub returns-in-Err : goal.returns-in-Err
returns-in-Err c = quotient_refused c.args.x.now c.args.y.now c.div.result c.in-Err.field-0 c.in-Err.is c.div.ensures.value

pub returns-in-Ok : goal.returns-in-Ok
returns-in-Ok c = quotient_given c.args.x.now c.args.y.now c.in-Ok.z c.div.result c.in-Ok.is c.to_whole-whole.ensures.number c.div.ensures.zero c.div.ensures.value
