use Rattle.std.proofs.Common.{◌≡◌, ◌+◌, ◌≤◌, ◌++◌, length}
use Rattle.abc_outline.specs.inner.Scanning.{outside_from}
use Rattle.abc_outline.proofs.gathering.add_outside.Given as goal

abbrev pub invariant-loop-token : goal.invariant-loop-token
invariant-loop-token l = (l.names ++ outside_from l.depth l.ahead ≡ l.fn.names ++ outside_from 0 l.fn.tokens) × (l.depth + length l.ahead ≤ length l.fn.tokens)

abbrev pub decreases-loop-token : goal.decreases-loop-token
decreases-loop-token l = length l.ahead
