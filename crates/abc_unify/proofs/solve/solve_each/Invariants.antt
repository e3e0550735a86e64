use Rattle.std.proofs.Common.{◌≤◌, length}
use Rattle.abc_unify.specs.inner.Kinds.{ConstraintsIn}
use Rattle.abc_unify.specs.inner.Slots.{SlotsIn, KeepsSolutions, weight}
use Rattle.abc_unify.specs.inner.Logs.{IsLogged}
use Rattle.abc_unify.proofs.solve.solve_each.Given as goal

abbrev pub invariant-loop-constraint : goal.invariant-loop-constraint
invariant-loop-constraint l = record {
  slots : SlotsIn l.slots;
  work : ConstraintsIn (length l.slots) l.work.items;
  lighter : weight l.slots l.work.items ≤ weight l.initial.slots l.initial.work.items;
  solutions : KeepsSolutions l.initial.slots l.initial.work.items l.slots l.work.items;
  logged : IsLogged l.initial.slots l.initial.log.items l.slots l.log.items;
}

abbrev pub decreases-loop-constraint : goal.decreases-loop-constraint
decreases-loop-constraint l = weight l.slots l.work.items
