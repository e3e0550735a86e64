use Rattle.abc_ground.proofs.CallsSeen.{unit_is_seen, command_is_seen}
use Rattle.abc_ground.proofs.laws.calls_are_seen.Goals as goal

pub returns-clause-unit : goal.returns-clause-unit
returns-clause-unit c = unit_is_seen

pub returns-clause-command : goal.returns-clause-command
returns-clause-command c = command_is_seen
