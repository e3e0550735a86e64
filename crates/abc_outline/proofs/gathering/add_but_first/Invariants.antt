use Rattle.std.proofs.Common.{◌≡◌, ◌+◌, ◌≤◌, ◌++◌, length}
use Rattle.abc_outline.specs.LineNames.{but_first}
use Rattle.abc_outline.proofs.gathering.add_but_first.Given as goal

abbrev pub invariant-loop-token : goal.invariant-loop-token
invariant-loop-token l = (l.names ++ but_first l.depth l.ahead ≡ l.fn.names ++ but_first 0 l.fn.tokens) × (l.depth + length l.ahead ≤ length l.fn.tokens)

abbrev pub decreases-loop-token : goal.decreases-loop-token
decreases-loop-token l = length l.ahead
