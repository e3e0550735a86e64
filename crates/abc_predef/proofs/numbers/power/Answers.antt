use Rattle.abc_predef.proofs.Operations.{power_is}
use Rattle.abc_predef.proofs.numbers.power.Goals as goal

pub returns : goal.returns
returns c = power_is c.args.x.now c.args.n.now c.pow.result c.requires c.pow.ensures.not_whole c.pow.ensures.zero c.pow.ensures.value
