use Rattle.abc_outcome.proofs.Typed.{check_is_there, type_lines_are_one}
use Rattle.abc_outcome.proofs.laws.type_lines_are_one.Goals as goal

pub returns-clause-one : goal.returns-clause-one
returns-clause-one c = type_lines_are_one c.units_are_set.ensures

pub returns-clause-there : goal.returns-clause-there
returns-clause-there c = check_is_there
