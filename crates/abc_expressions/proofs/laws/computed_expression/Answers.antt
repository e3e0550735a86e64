use Rattle.abc_expressions.proofs.Spelled.{is_expression_of}
use Rattle.abc_expressions.proofs.laws.computed_expression.Goals as goal

pub returns : goal.returns
returns c own ts a = is_expression_of c.one_reading.ensures own ts a
