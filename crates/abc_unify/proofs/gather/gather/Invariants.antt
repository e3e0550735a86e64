use Rattle.std.proofs.Common.{◌+◌, length}
use Rattle.std.specs.List.{sum_by}
use Rattle.abc_unify.specs.inner.Cycles.{mark_weight}
use Rattle.abc_unify.specs.inner.Reading.{IsGathering}
use Rattle.abc_unify.proofs.gather.gather.Given as goal

abbrev pub invariant-loop-at : goal.invariant-loop-at
invariant-loop-at l = IsGathering l.slots l.marks l.work.items l.all.items l.wanted

abbrev pub decreases-loop-at : goal.decreases-loop-at
decreases-loop-at l = sum_by mark_weight l.marks + length l.work.items
