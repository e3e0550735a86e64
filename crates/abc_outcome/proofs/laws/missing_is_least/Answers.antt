use Rattle.abc_outcome.proofs.CallLines.{line_is_least}
use Rattle.abc_outcome.proofs.Firsts.{computed_first, computed_none}
use Rattle.abc_outcome.proofs.laws.missing_is_least.Goals as goal

pub returns-clause-some : goal.returns-clause-some
returns-clause-some c = computed_first

pub returns-clause-line : goal.returns-clause-line
returns-clause-line c = line_is_least

pub returns-clause-none : goal.returns-clause-none
returns-clause-none c = computed_none
