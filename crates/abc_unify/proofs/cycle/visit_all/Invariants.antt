use Rattle.std.proofs.Common.{ℕ, ◌<◌, [], get_or}
use Rattle.abc_unify.specs.declared.log.Entry.{Entry}
use Rattle.abc_unify.specs.inner.Slots.{root_of}
use Rattle.abc_unify.specs.inner.Cycles.{Marked, IsPassed}
use Rattle.abc_unify.proofs.cycle.visit_all.Given as goal

abbrev pub invariant-loop-i : goal.invariant-loop-i
invariant-loop-i l = record {
  marked : Marked l.slots l.marks [] l.next;
  found : (k : ℕ) (d : Entry) → k < l.i → IsPassed l.named l.marks (root_of l.slots (get_or l.written k d).at.0);
}
