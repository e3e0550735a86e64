use Rattle.abc_predef.proofs.Operations.{rest_is}
use Rattle.abc_predef.proofs.numbers.rest.Goals as goal

pub returns : goal.returns
returns c = rest_is c.args.x.now c.args.y.now c.modulo.result c.requires.left c.requires.right c.modulo.ensures.zero c.modulo.ensures.value
