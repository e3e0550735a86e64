use Rattle.abc_expressions.proofs.Spelled.{one}
use Rattle.abc_expressions.proofs.laws.one_expression.Goals as goal

pub returns : goal.returns
returns c own d ts a b p q = one c.one_reading.ensures own d ts a b p q
