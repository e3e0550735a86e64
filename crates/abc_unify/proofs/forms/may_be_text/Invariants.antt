use Rattle.std.proofs.Common.{◌≡◌, ℕ, ◌+◌, ◌*◌, ◌<◌, ◌≤◌, ◌↔◌, List, length, get_or}
use Rattle.std.specs.List.{sum_by}
use Rattle.abc_unify.specs.declared.kind.Kind.TheVariants.{Free}
use Rattle.abc_unify.specs.declared.kind.Slot.TheVariants.{Root}
use Rattle.abc_unify.specs.inner.Slots.{IsRoot}
use Rattle.abc_unify.specs.inner.Cycles.{mark_weight}
use Rattle.abc_unify.specs.inner.Reading.{TextAt, IsSeenAbove}
use Rattle.abc_unify.proofs.forms.may_be_text.Given as goal

abbrev pub invariant-loop : goal.invariant-loop
invariant-loop l = record {
  inside : l.at.0 < length l.slots;
  root : IsRoot (get_or l.slots l.at.0 (Root Free));
  same : TextAt l.slots l.fn.a.0 ↔ TextAt l.slots l.at.0;
  seen : (seen : List ℕ) × (length seen ≡ length l.slots) × IsSeenAbove l.slots seen l.at.0 × (sum_by mark_weight seen + l.counter ≤ 2 * length l.slots);
}
