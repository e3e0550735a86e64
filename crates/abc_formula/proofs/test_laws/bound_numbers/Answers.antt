use Rattle.abc_formula.proofs.BoundNumbers.{names_numbered}
use Rattle.abc_formula.proofs.test_laws.bound_numbers.Goals as goal

pub returns : goal.returns
returns c own fewest d names ts rest p = names_numbered own p
