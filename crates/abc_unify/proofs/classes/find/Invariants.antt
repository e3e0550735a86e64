use Rattle.std.proofs.Common.{◌≡◌, ℕ, ◌<◌, length}
use Rattle.abc_num.specs.declared.types.Ground.{Ground}
use Rattle.abc_unify.specs.inner.Slots.{Meets, root_of}
use Rattle.abc_unify.proofs.classes.find.Given as goal

abbrev pub invariant-loop-next : goal.invariant-loop-next
invariant-loop-next l = record {
  inside : l.at.0 < length l.slots;
  same : (v : ℕ → Ground) → Meets v l.slots → v l.initial.at.0 ≡ v l.at.0;
  class : root_of l.slots l.initial.at.0 ≡ root_of l.slots l.at.0;
}

abbrev pub decreases-loop-next : goal.decreases-loop-next
decreases-loop-next l = l.at.0
