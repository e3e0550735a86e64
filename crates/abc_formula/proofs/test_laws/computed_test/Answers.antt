use Rattle.abc_formula.proofs.TestAnswers.{is_test_of}
use Rattle.abc_formula.proofs.test_laws.computed_test.Goals as goal

pub returns : goal.returns
returns c own ts a = is_test_of c.one_reading.ensures own ts a
