use Rattle.abc_expressions.proofs.Spelled.{is_single_of}
use Rattle.abc_expressions.proofs.laws.computed_single.Goals as goal

pub returns : goal.returns
returns c own ts a = is_single_of c.one_reading.ensures own ts a
