use Rattle.std.proofs.Common.{◌≡◌, ◌++◌, take}
use Rattle.abc_unify.specs.inner.Kinds.{pairs}
use Rattle.abc_unify.proofs.solve.push_pairs.Given as goal

abbrev pub invariant-loop-i : goal.invariant-loop-i
invariant-loop-i l = l.work.items ≡ l.initial.work.items ++ pairs (take l.i l.held) (take l.i l.added)
