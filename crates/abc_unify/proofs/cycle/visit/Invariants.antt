use Rattle.std.proofs.Common.{ℕ, ◌≤◌, get_or}
use Rattle.std.specs.List.{sum_by}
use Rattle.abc_unify.specs.inner.Cycles.{Marked, mark_weight}
use Rattle.abc_unify.proofs.cycle.visit.Given as goal

abbrev pub invariant-loop-top : goal.invariant-loop-top
invariant-loop-top l = record {
  marked : Marked l.slots l.marks l.stack.items l.next;
  begun : 1 ≤ get_or l.marks l.start 0;
  kept : (i : ℕ) → 2 ≤ get_or l.fn.marks i 0 → 2 ≤ get_or l.marks i 0;
}

abbrev pub decreases-loop-top : goal.decreases-loop-top
decreases-loop-top l = sum_by mark_weight l.marks
