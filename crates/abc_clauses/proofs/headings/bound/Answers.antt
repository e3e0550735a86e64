use Rattle.abc_clauses.proofs.Fronts.{bound_spelled, bound_tells}
use Rattle.abc_clauses.proofs.headings.bound.Goals as goal

pub returns-clause-tells : goal.returns-clause-tells
returns-clause-tells c = bound_tells c.args.own.now c.args.tokens.now c.bound_in_front.result c.bound_in_front.ensures

pub returns-clause-spelled : goal.returns-clause-spelled
returns-clause-spelled c = bound_spelled c.args.own.now c.args.tokens.now c.requires c.bound_in_front.result c.bound_in_front.ensures
