use Rattle.abc_fewer.proofs.Nodes.{nodes_called}
use Rattle.abc_check.proofs.laws.nodes_are_called.Goals as goal

pub returns : goal.returns
returns c = nodes_called
