use Rattle.std.proofs.Common.{◌≡◌, ◌≤◌, ◌+◌, length}
use Rattle.abc_expressions.specs.inner.Machine.{Next, reach}
use Rattle.abc_expressions.specs.inner.Steps.{behind, opens}
use Rattle.abc_expressions.proofs.reading.Reader.behind.Given as goal

abbrev pub invariant-loop-self : goal.invariant-loop-self
invariant-loop-self l = (l.self.most ≡ l.fn.self.most) × (l.self.left + opens l.self.stack ≤ l.self.most)
    × ((next : Next) → behind l.fn.own l.fn.token l.fn.rest l.fn.self.left l.fn.self.stack l.fn.least l.fn.level l.fn.a next
    ≡ behind l.fn.own l.fn.token l.fn.rest l.self.left l.self.stack l.least l.level l.a next)
    × (l.reached ≡ reach l.fn.own l.fn.token)

abbrev pub decreases-loop-self : goal.decreases-loop-self
decreases-loop-self l = length l.self.stack
