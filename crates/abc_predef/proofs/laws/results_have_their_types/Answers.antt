use Rattle.abc_predef.proofs.ResultTypes.{one_by, two_by}
use Rattle.abc_predef.proofs.laws.results_have_their_types.Goals as goal

pub returns-clause-one : goal.returns-clause-one
returns-clause-one c = one_by

pub returns-clause-two : goal.returns-clause-two
returns-clause-two c = two_by
