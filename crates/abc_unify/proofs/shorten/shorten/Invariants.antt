use Rattle.std.proofs.Common.{◌<◌, length}
use Rattle.abc_unify.specs.inner.Slots.{IsShortened}
use Rattle.abc_unify.specs.inner.Logs.{IsLogged}
use Rattle.abc_unify.proofs.shorten.shorten.Given as goal

abbrev pub invariant-loop-beyond : goal.invariant-loop-beyond
invariant-loop-beyond l = record {
  at : l.at.0 < length l.slots;
  shortened : IsShortened l.initial.slots l.slots;
  logged : IsLogged l.initial.slots l.initial.log.items l.slots l.log.items;
}

abbrev pub decreases-loop-beyond : goal.decreases-loop-beyond
decreases-loop-beyond l = l.at.0
