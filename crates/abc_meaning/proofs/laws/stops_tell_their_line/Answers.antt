use Rattle.abc_meaning.proofs.Telling.{stops_tell_their_line, command_tells_its_line}
use Rattle.abc_meaning.proofs.laws.stops_tell_their_line.Goals as goal

pub returns-clause-nodes : goal.returns-clause-nodes
returns-clause-nodes c = stops_tell_their_line

pub returns-clause-command : goal.returns-clause-command
returns-clause-command c = command_tells_its_line
