use Rattle.abc_formula.proofs.TestTurns.{single_rest}
use Rattle.abc_formula.proofs.testing.single.Goals as goal

pub returns-clause-rest : goal.returns-clause-rest
returns-clause-rest c = single_rest c.one_reading.ensures c.args.own.now c.args.left c.args.least c.args.tokens.now c.expression_in_front.result c.requires.spelled c.requires.least c.expression_in_front.ensures.read
