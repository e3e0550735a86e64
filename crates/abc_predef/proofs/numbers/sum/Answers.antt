use Rattle.abc_predef.proofs.Operations.{sum_is}
use Rattle.abc_predef.proofs.numbers.sum.Goals as goal

pub returns : goal.returns
returns c = sum_is c.args.x.now c.args.y.now c.add.result c.requires.left c.requires.right c.add.ensures
