use Rattle.abc_predef.proofs.Operations.{rounding_is}
use Rattle.abc_predef.proofs.numbers.rounding.Goals as goal

pub returns : goal.returns
returns c = rounding_is c.args.n.now c.args.x.now c.round_to.result c.round_to.ensures.not_whole c.round_to.ensures.value
