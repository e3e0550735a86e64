use Rattle.abc_expressions.proofs.FrontLaws.{single_told}
use Rattle.abc_expressions.proofs.front.expression_in_front.Goals as goal

pub returns-clause-single : goal.returns-clause-single
returns-clause-single c low = single_told c.one_reading.ensures c.args.own.now c.args.left c.args.tokens.now c.read_tree.result c.args.least c.read_tree.ensures low
