use Rattle.std.proofs.Common.{take}
use Rattle.abc_unify.specs.inner.Reading.{IsQueued}
use Rattle.abc_unify.proofs.gather.queue_all.Given as goal

abbrev pub invariant-loop-i : goal.invariant-loop-i
invariant-loop-i l = IsQueued l.initial.marks l.initial.work.items l.marks l.work.items (take l.i l.xs)
