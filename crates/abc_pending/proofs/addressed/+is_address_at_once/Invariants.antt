use Rattle.std.proofs.Common.{◌+◌, ◌*◌}
use Rattle.abc_pending.proofs.addressed.+is_address_at_once.Given as goal

abbrev pub decreases-is_address_at_once : goal.decreases-is_address_at_once
decreases-is_address_at_once l = 2 * l.height

abbrev pub decreases-is_part_at_once : goal.decreases-is_part_at_once
decreases-is_part_at_once l = 2 * l.height + 1
