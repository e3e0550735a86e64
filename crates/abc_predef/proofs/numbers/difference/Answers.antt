use Rattle.abc_predef.proofs.Operations.{difference_is}
use Rattle.abc_predef.proofs.numbers.difference.Goals as goal

pub returns : goal.returns
returns c = difference_is c.args.x.now c.args.y.now c.sub.result c.requires.left c.requires.right c.sub.ensures
