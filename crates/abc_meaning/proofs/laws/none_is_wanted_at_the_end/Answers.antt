use Rattle.abc_meaning.proofs.Ended.{none_is_wanted, command_wants_none}
use Rattle.abc_meaning.proofs.laws.none_is_wanted_at_the_end.Goals as goal

pub returns-clause-nodes : goal.returns-clause-nodes
returns-clause-nodes c = none_is_wanted

pub returns-clause-command : goal.returns-clause-command
returns-clause-command c = command_wants_none
