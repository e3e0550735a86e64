use Rattle.abc_meaning.proofs.Longer.{more_lines_change_nothing, command_is_same}
use Rattle.abc_meaning.proofs.laws.more_lines_change_nothing.Goals as goal

pub returns-clause-nodes : goal.returns-clause-nodes
returns-clause-nodes c = more_lines_change_nothing

pub returns-clause-command : goal.returns-clause-command
returns-clause-command c = command_is_same
