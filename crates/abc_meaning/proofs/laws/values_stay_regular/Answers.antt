use Rattle.abc_meaning.proofs.Regularly.{values_stay_regular, targets_stay_regular, input_lines_are_short}
use Rattle.abc_meaning.proofs.laws.values_stay_regular.Goals as goal

pub returns-clause-nodes : goal.returns-clause-nodes
returns-clause-nodes c = values_stay_regular c.displays_read_back.ensures.computed

pub returns-clause-command : goal.returns-clause-command
returns-clause-command c = targets_stay_regular c.displays_read_back.ensures.computed

pub returns-clause-lines : goal.returns-clause-lines
returns-clause-lines c = input_lines_are_short
