use Rattle.std.proofs.Common.{◌≡◌, ◌+◌, ◌≤◌, length}
use Rattle.abc_outline.specs.inner.Cutting.{colon_from}
use Rattle.abc_outline.proofs.parts.colon_at.Given as goal

abbrev pub invariant-loop-token : goal.invariant-loop-token
invariant-loop-token l = (colon_from l.at l.depth l.ahead ≡ colon_from 0 0 l.fn.tokens) × (l.at + length l.ahead ≡ length l.fn.tokens) × (l.depth ≤ l.at)

abbrev pub decreases-loop-token : goal.decreases-loop-token
decreases-loop-token l = length l.ahead
