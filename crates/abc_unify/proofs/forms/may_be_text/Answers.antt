use Rattle.std.proofs.Common.{◌≡◌, ◌∙◌, ◌*◌, ◌↔◌, ◌<◌, ℕ, List, length, get_or, set, sym, ap, subst, arith}
use Rattle.std.specs.List.{sum_by}
use Rattle.std.proofs.Math.ListN.{length-set}
use Rattle.abc_unify.specs.declared.kind.Kind.TheVariants.{Free, TrainOf}
use Rattle.abc_unify.specs.declared.kind.Slot.TheVariants.{Root}
use Rattle.abc_unify.specs.inner.Slots.{root_of}
use Rattle.abc_unify.specs.inner.Cycles.{mark_weight}
use Rattle.abc_unify.specs.inner.Reading.{TextAt, IsTextual, IsSeenAbove}
use Rattle.abc_unify.proofs.Stamping.{none_weight}
use Rattle.abc_unify.proofs.Downward.{text_here, text_step, text_at_root, none_seen, seen_more, seen_less, not_train, zeros, length-zeros, zero_at, not_so_many}
use Rattle.abc_unify.proofs.forms.may_be_text.Goals as goal

pub loop-init : goal.loop-init
loop-init c =
    let slots = c.args.slots.now in
    let weight : sum_by mark_weight (zeros slots) ≡ 2 * length (zeros slots) = none_weight (zeros slots) (zero_at slots) in
    record {
      inside = c.find-at.ensures.inside;
      root = c.find-at.ensures.root;
      same = text_at_root slots c.args.a.0 c.find-at.result.0 c.find-at.ensures.class;
      seen = (zeros slots, length-zeros slots, none_seen slots (zeros slots) c.find-at.result.0 (zero_at slots) c.requires.ranked.0 c.requires.ranked.1, omega (arith, weight, length-zeros slots));
    }

pub returns-in_default : goal.returns-in_default
returns-in_default c =
    let i = c.loop.invariant in
    let here : TextAt c.args.slots.now c.loop.at.0 ↔ IsTextual c.kind_at-kind.result.now = text_here c.args.slots.now c.requires.slots c.requires.ranked.0 c.requires.ranked.1 c.loop.at.0 c.kind_at-kind.result.now c.kind_at-kind.ensures (not_train c.kind_at-kind.result.now c.in_default.not-TrainOf) in (
      λ t. i.same.1 (here.1 (c.is_textual.ensures.0 t)),
      λ m. c.is_textual.ensures.1 (here.0 (i.same.0 m)),
    )

pub loop-preserved : goal.loop-preserved
loop-preserved c =
    let slots = c.args.slots.now in
    let i = c.loop.invariant in
    let seen : List ℕ = i.seen.0 in
    let at = c.loop.at.0 in
    let low : at < length seen = omega (arith, i.inside, i.seen.1) in
    let is : get_or slots at (Root Free) ≡ Root (TrainOf c.in-TrainOf.e) = c.kind_at-kind.ensures ∙ ap Root c.in-TrainOf.is in
    let class : c.find-at-in-loop.result.0 ≡ root_of slots c.in-TrainOf.e.0 = c.find-at-in-loop.ensures.class in
    let on : TextAt slots at ↔ TextAt slots (root_of slots c.in-TrainOf.e.0) = text_step slots c.requires.slots c.requires.ranked.0 c.requires.ranked.1 at c.in-TrainOf.e is in
    let less : sum_by mark_weight (set seen at 1) < sum_by mark_weight seen = seen_less slots seen at low i.seen.2 in
    record {
      inside = c.find-at-in-loop.ensures.inside;
      root = c.find-at-in-loop.ensures.root;
      same = (
        λ m. subst (λ x. TextAt slots x) (sym class) (on.0 (i.same.0 m)),
        λ m. i.same.1 (on.1 (subst (λ x. TextAt slots x) class m)),
      );
      seen = (set seen at 1, length-set seen at 1 ∙ i.seen.1, subst (λ x. IsSeenAbove slots (set seen at 1) x) (sym class) (seen_more slots seen at c.in-TrainOf.e low is i.seen.2), omega (arith, less, i.seen.3));
    }

pub unreachable-requires : goal.unreachable-requires
unreachable-requires c =
    let i = c.loop.invariant in
    absurd (let few : c.loop.counter < length c.args.slots.now = not_so_many c.args.slots.now i.seen.0 c.loop.at.0 c.loop.counter i.seen.1 i.inside i.seen.2 i.seen.3 in omega arith)
