use Rattle.std.proofs.Common.{◌≡◌, length}
use Rattle.abc_expressions.specs.inner.Machine.{finished}
use Rattle.abc_expressions.proofs.reading.Reader.finish.Given as goal

abbrev pub invariant-loop-infix : goal.invariant-loop-infix
invariant-loop-infix l = finished l.self.stack l.a ≡ finished l.fn.self.stack l.fn.a

abbrev pub decreases-loop-infix : goal.decreases-loop-infix
decreases-loop-infix l = length l.self.stack
