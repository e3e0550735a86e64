use Rattle.abc_formula.proofs.BoundLaws.{formal_only}
use Rattle.abc_formula.proofs.binding.formal_in_front.Goals as goal

pub returns : goal.returns
returns c = formal_only c.args.own.now c.args.left c.args.tokens.now c.formal_in.result c.formal_in.ensures
