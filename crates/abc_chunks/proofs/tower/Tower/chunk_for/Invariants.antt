use Rattle.std.proofs.Common.{◌-◌}
use Rattle.abc_chunks.specs.Towers.{pieces}
use Rattle.abc_chunks.proofs.Searching.{IsAround}
use Rattle.abc_chunks.proofs.tower.Tower.chunk_for.Given as goal

abbrev pub invariant-loop-low : goal.invariant-loop-low
invariant-loop-low g l = IsAround (g.S.Seek.passes l.sought) (pieces l.self) l.low l.high

abbrev pub decreases-loop-low : goal.decreases-loop-low
decreases-loop-low g l = l.high - l.low
