use Rattle.std.proofs.Common.{◌+◌, ◌*◌}
use Rattle.abc_pending.proofs.at_once.+value_found.Given as goal

abbrev pub decreases-value_found : goal.decreases-value_found
decreases-value_found l = 3 * l.place.levels

abbrev pub decreases-node_found : goal.decreases-node_found
decreases-node_found l = 3 * l.place.levels + 2

abbrev pub decreases-both_found : goal.decreases-both_found
decreases-both_found l = 3 * l.place.levels + 1
