use Rattle.std.proofs.Common.{refl, ap, sym, ◌∙◌, ◌∷◌}
use Rattle.abc_expressions.specs.inner.Machine.{after_part, go_on_after}
use Rattle.abc_expressions.proofs.ReaderSteps.{steps_along, goes, at_none, at_between, at_before, at_inside, opens_same}
use Rattle.abc_expressions.proofs.reading.Reader.behind.Goals as goal

pub returns-then-goes_on-clause-steps : goal.returns-then-goes_on-clause-steps
returns-then-goes_on-clause-steps c =
    steps_along _ _ _ _ _ _ (λ next. c.loop-self.invariant.2 next ∙ goes _ _ _ _ _ _ _ _ _ c.loop-self.invariant.3 (sym c.goes_on.ensures ∙ c.if-goes_on.true) next)
    (c.go_on.ensures.steps (c.args.token.now ∷ c.args.rest.now))

pub returns-in-None-clause-steps : goal.returns-in-None-clause-steps
returns-in-None-clause-steps c next = c.loop-self.invariant.2 next ∙ at_none _ _ _ _ _ _ _ _ _ c.loop-self.invariant.3 (sym c.goes_on.ensures ∙ c.if-goes_on.false) c.in-None.ensures.0 next

pub loop-self-preserved-in-Some-Between : goal.loop-self-preserved-in-Some-Between
loop-self-preserved-in-Some-Between c =
    let top = rw c.in-Some-Between.field-0-is at c.in-Some-Between.ensures in (
      c.loop-self.invariant.0,
      opens_same _ _ _ _ _ c.loop-self.invariant.1 top refl,
      λ next. c.loop-self.invariant.2 next ∙ at_between _ _ _ _ _ _ _ _ _ c.loop-self.invariant.3 (sym c.goes_on.ensures ∙ c.if-goes_on.false) _ _ _ _ _ top c.in_ok-a-in-Some-Between.ensures next,
      c.loop-self.invariant.3,
    )

pub loop-self-preserved : goal.loop-self-preserved
loop-self-preserved c =
    let top = rw c.in-Some-Before.field-0-is at c.in-Some-Before.ensures in (
      c.loop-self.invariant.0,
      opens_same _ _ _ _ _ c.loop-self.invariant.1 top refl,
      λ next. c.loop-self.invariant.2 next ∙ at_before _ _ _ _ _ _ _ _ _ c.loop-self.invariant.3 (sym c.goes_on.ensures ∙ c.if-goes_on.false) _ _ _ _ top c.in_ok-a-in-Some-Before.ensures next,
      c.loop-self.invariant.3,
    )

pub returns-in-Some-Inside-clause-steps : goal.returns-in-Some-Inside-clause-steps
returns-in-Some-Inside-clause-steps c =
    let top = rw c.in-Some-Inside.field-0-is at c.in-Some-Inside.ensures in
    steps_along _ _ _ _ _ _ (λ next. c.loop-self.invariant.2 next ∙ at_inside _ _ _ _ _ _ _ _ _ c.loop-self.invariant.3 (sym c.goes_on.ensures ∙ c.if-goes_on.false) _ _ _ top next
    ∙ ap (λ s. go_on_after (after_part c.in-Some-Inside.group s c.loop-self.a) next c.loop-self.self.left c.pop.new.self c.in-Some-Inside.outer (c.args.token.now ∷ c.args.rest.now)) (sym c.sign_of.ensures))
    (c.reduce.ensures.steps (c.args.token.now ∷ c.args.rest.now))
