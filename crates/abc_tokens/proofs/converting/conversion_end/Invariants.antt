use Rattle.std.proofs.Common.{◌-◌, length}
use Rattle.abc_tokens.specs.inner.ConversionSteps.{HasPassed}
use Rattle.abc_tokens.proofs.converting.conversion_end.Given as goal

abbrev pub invariant-loop-at : goal.invariant-loop-at
invariant-loop-at l = HasPassed l.bytes l.at l.sound

abbrev pub decreases-loop-at : goal.decreases-loop-at
decreases-loop-at l = length l.bytes - l.at
