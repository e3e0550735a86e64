use Rattle.std.proofs.Common.{◌+◌, ◌*◌}
use Rattle.abc_pending.proofs.at_once.+is_at_once.Given as goal

abbrev pub decreases-is_at_once : goal.decreases-is_at_once
decreases-is_at_once l = 2 * l.height

abbrev pub decreases-are_at_once : goal.decreases-are_at_once
decreases-are_at_once l = 2 * l.height + 1
