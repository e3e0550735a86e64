use Rattle.std.proofs.Common.{◌-◌}
use Rattle.abc_chunks.proofs.Halves.{IsBetween}
use Rattle.abc_chunks.proofs.tower.chunk_of.Given as goal

abbrev pub invariant-loop-low : goal.invariant-loop-low
invariant-loop-low l = IsBetween l.totals l.place l.low l.high

abbrev pub decreases-loop-low : goal.decreases-loop-low
decreases-loop-low l = l.high - l.low
