use Rattle.abc_predef.proofs.Operations.{quotient_is}
use Rattle.abc_predef.proofs.numbers.quotient.Goals as goal

pub returns : goal.returns
returns c = quotient_is c.args.x.now c.args.y.now c.div.result c.requires c.div.ensures.zero c.div.ensures.value
