use Rattle.abc_predef.proofs.Operations.{product_is}
use Rattle.abc_predef.proofs.numbers.product.Goals as goal

pub returns : goal.returns
returns c = product_is c.args.x.now c.args.y.now c.mul.result c.requires.left c.requires.right c.mul.ensures
