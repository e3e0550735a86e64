use Rattle.abc_unify.specs.inner.Slots.{IsShortened}
use Rattle.abc_unify.specs.inner.Logs.{IsLogged}
use Rattle.abc_unify.proofs.shorten.shorten_all.Given as goal

abbrev pub invariant-loop-i : goal.invariant-loop-i
invariant-loop-i l = record {
  shortened : IsShortened l.initial.slots l.slots;
  logged : IsLogged l.initial.slots l.initial.log.items l.slots l.log.items;
}
