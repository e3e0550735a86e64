use Rattle.abc_formula.proofs.TestComplete.{one_reading}
use Rattle.abc_formula.proofs.test_laws.one_test.Goals as goal

pub returns : goal.returns
returns c = one_reading c.one_reading.ensures
