use Rattle.std.proofs.Common.{◌-◌}
use Rattle.abc_chunks.proofs.Searching.{IsHalved}
use Rattle.abc_chunks.proofs.search.place_in.Given as goal

abbrev pub invariant-loop-low : goal.invariant-loop-low
invariant-loop-low g l = IsHalved (g.S.Seek.passes l.sought) l.items l.low l.high

abbrev pub decreases-loop-low : goal.decreases-loop-low
decreases-loop-low g l = l.high - l.low
