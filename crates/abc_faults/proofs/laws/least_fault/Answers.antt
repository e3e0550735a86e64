use Rattle.abc_faults.proofs.Leasts.{found_first, none_stands}
use Rattle.abc_faults.proofs.laws.least_fault.Goals as goal

pub returns-clause-found : goal.returns-clause-found
returns-clause-found c = found_first

pub returns-clause-none : goal.returns-clause-none
returns-clause-none c = none_stands
