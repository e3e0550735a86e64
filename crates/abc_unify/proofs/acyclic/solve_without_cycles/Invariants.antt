use Rattle.std.proofs.Common.{◌≡◌, []}
use Rattle.abc_unify.specs.inner.Slots.{SlotsIn, KeepsSolutions, weight}
use Rattle.abc_unify.specs.inner.Logs.{IsLogged}
use Rattle.abc_unify.specs.inner.Naming.{AreNoted, HasGrown}
use Rattle.abc_unify.proofs.acyclic.solve_without_cycles.Given as goal

abbrev pub invariant-loop-top : goal.invariant-loop-top
invariant-loop-top l = record {
  slots : SlotsIn l.slots;
  work : l.work.items ≡ [];
  solutions : KeepsSolutions l.fn.slots l.fn.work.items l.slots [];
  logged : IsLogged l.fn.slots l.fn.log.items l.slots l.log.items;
  noted : AreNoted l.slots l.log.items l.named;
  grown : HasGrown l.fn.named l.named;
}

abbrev pub decreases-loop-top : goal.decreases-loop-top
decreases-loop-top l = weight l.slots []
