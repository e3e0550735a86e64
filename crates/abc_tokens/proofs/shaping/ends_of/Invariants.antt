use Rattle.std.proofs.Common.{◌-◌, length}
use Rattle.abc_tokens.proofs.EndsSteps.{HasEnds}
use Rattle.abc_tokens.proofs.shaping.ends_of.Given as goal

abbrev pub invariant-loop-start : goal.invariant-loop-start
invariant-loop-start l = HasEnds l.text l.ends l.at

abbrev pub decreases-loop-start : goal.decreases-loop-start
decreases-loop-start l = length l.text - l.at
