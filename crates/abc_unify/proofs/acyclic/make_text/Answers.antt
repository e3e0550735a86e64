use Rattle.std.proofs.Common.{◌≡◌, ◌∙◌, ap, get_or}
use Rattle.abc_unify.specs.declared.kind.Kind.TheVariants.{Free, TrainOf}
use Rattle.abc_unify.specs.declared.kind.Slot.TheVariants.{Root}
use Rattle.abc_unify.proofs.Walking.{text_keeps}
use Rattle.abc_unify.proofs.acyclic.make_text.Goals as goal

pub returns-clause-solutions : goal.returns-clause-solutions
returns-clause-solutions c =
    let is : get_or c.args.slots.now c.args.top.0 (Root Free) ≡ Root (TrainOf c.in-TrainOf.e) = c.kind_at.ensures ∙ ap Root c.in-TrainOf.is in
    rw (c.in_ok-write.ensures.slots, c.in_ok-push.ensures.items, c.requires.work) (text_keeps c.args.slots.now c.args.top.0 c.in-TrainOf.e c.requires.cycle.inside is c.requires.cycle.is_text)
