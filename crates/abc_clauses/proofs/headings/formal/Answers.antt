use Rattle.abc_clauses.proofs.Fronts.{formal_spelled, formal_tells}
use Rattle.abc_clauses.proofs.headings.formal.Goals as goal

pub returns-clause-tells : goal.returns-clause-tells
returns-clause-tells c = formal_tells c.args.own.now c.args.tokens.now c.formal_in_front.result c.formal_in_front.ensures

pub returns-clause-spelled : goal.returns-clause-spelled
returns-clause-spelled c = formal_spelled c.args.own.now c.args.tokens.now c.requires c.formal_in_front.result c.formal_in_front.ensures
