use Rattle.abc_expressions.proofs.SplitSteps.{nothing_left, plain_cut}
use Rattle.abc_expressions.proofs.texts.first_of.Goals as goal

pub returns-in_default : goal.returns-in_default
returns-in_default c = nothing_left c.args.quote c.args.bytes.now c.in_default.ensures.cases

pub returns : goal.returns
returns c = plain_cut c.args.quote _ _ c.args.bytes.now c.in-Some.ensures.cases.0 c.if-byte-quote.false c.if-byte-eq96.false
