use Rattle.std.proofs.Common.{◌-◌, length}
use Rattle.abc_tokens.proofs.Fronts.{HasFront}
use Rattle.abc_tokens.proofs.shaping.front_of.Given as goal

abbrev pub invariant-loop-bytes : goal.invariant-loop-bytes
invariant-loop-bytes l = HasFront l.line l.bytes l.columns

abbrev pub decreases-loop-bytes : goal.decreases-loop-bytes
decreases-loop-bytes l = length l.line - l.bytes
