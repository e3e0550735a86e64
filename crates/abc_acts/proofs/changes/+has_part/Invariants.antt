use Rattle.std.proofs.Common.{length}
use Rattle.abc_acts.proofs.changes.+has_part.Given as goal

abbrev pub decreases-has_part : goal.decreases-has_part
decreases-has_part l = length l.steps.now
