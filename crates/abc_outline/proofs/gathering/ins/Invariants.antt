use Rattle.std.proofs.Common.{◌≡◌, ◌+◌, ◌≤◌, length}
use Rattle.abc_outline.specs.inner.Scanning.{ins}
use Rattle.abc_outline.proofs.gathering.ins.Given as goal

abbrev pub invariant-loop-token : goal.invariant-loop-token
invariant-loop-token l = (l.count + ins l.ahead ≡ ins l.fn.tokens) × (l.count + length l.ahead ≤ length l.fn.tokens)

abbrev pub decreases-loop-token : goal.decreases-loop-token
decreases-loop-token l = length l.ahead
