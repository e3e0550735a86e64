use Rattle.std.proofs.Common.{length, ◌*◌, ◌+◌}
use Rattle.abc_acts.proofs.changing.+change.Given as goal

abbrev pub decreases-change_in : goal.decreases-change_in
decreases-change_in l = 3 * length l.steps.now

abbrev pub decreases-changed_part : goal.decreases-changed_part
decreases-changed_part l = 3 * length l.steps.now + 2

abbrev pub decreases-changed_copy : goal.decreases-changed_copy
decreases-changed_copy l = 3 * length l.steps.now + 1
