use Rattle.std.proofs.Common.{◌≡◌, ◌∷◌, [], ◌++◌, sym, subst, refl, rules}
use Rattle.abc_unify.specs.declared.forms.Known.{Known}
use Rattle.abc_terms.specs.Nodes.{AreIn}
use Rattle.abc_unify.specs.Forms.{leads_on}
use Rattle.abc_unify.specs.inner.Reading.{IsGathering}
use Rattle.abc_unify.proofs.Gathering.{next_gathering, gathered, wanted_known}
use Rattle.abc_unify.proofs.gather.gather.Goals as goal

pub queue_form-requires-clause-form : goal.queue_form-requires-clause-form
queue_form-requires-clause-form c =
    subst (λ n. AreIn n (leads_on c.in_ok-form.form)) (sym c.loop-at.invariant.count) ((c.in_ok-form.ensures c.requires.solved.0 c.requires.solved.1).inside)

pub loop-at-preserved : goal.loop-at-preserved
loop-at-preserved c =
    let e : Known = record { at = c.in-Some.at; form = c.in_ok-form.form } in
    let g : IsGathering c.args.slots.now c.loop-at.marks (c.pop.new.self.items ++ c.in-Some.at ∷ []) c.loop-at.all.items c.args.wanted.now = subst (λ w. IsGathering c.args.slots.now c.loop-at.marks w c.loop-at.all.items c.args.wanted.now) c.in-Some.ensures.items c.loop-at.invariant in
    subst (λ all. IsGathering c.args.slots.now c.queue_form.new.marks c.queue_form.new.work.items all c.args.wanted.now) (sym c.in_ok-push.ensures.items)
    (next_gathering c.args.slots.now c.args.wanted.now c.loop-at.marks c.pop.new.self.items c.in-Some.at c.loop-at.all.items c.queue_form.new.marks c.queue_form.new.work.items c.in_ok-form.form e refl refl g c.in_ok-form.ensures c.in_ok-queue_form.ensures)

pub returns-clause-forms : goal.returns-clause-forms
returns-clause-forms c demands solved =
    let none : c.loop-at.work.items ≡ [] = search rules in
    gathered c.args.slots.now c.args.wanted.now c.loop-at.marks c.loop-at.all.items (subst (λ w. IsGathering c.args.slots.now c.loop-at.marks w c.loop-at.all.items c.args.wanted.now) none c.loop-at.invariant) demands solved

pub returns-clause-there : goal.returns-clause-there
returns-clause-there c =
    let none : c.loop-at.work.items ≡ [] = search rules in
    wanted_known c.args.slots.now c.args.wanted.now c.loop-at.marks c.loop-at.all.items (subst (λ w. IsGathering c.args.slots.now c.loop-at.marks w c.loop-at.all.items c.args.wanted.now) none c.loop-at.invariant)
