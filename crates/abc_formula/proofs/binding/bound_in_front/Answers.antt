use Rattle.abc_formula.proofs.BoundLaws.{bound_only}
use Rattle.abc_formula.proofs.binding.bound_in_front.Goals as goal

pub returns : goal.returns
returns c = bound_only c.args.own.now c.args.left c.args.tokens.now c.names_to_in.result c.names_to_in.ensures
