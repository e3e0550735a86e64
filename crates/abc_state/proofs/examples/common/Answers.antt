use Rattle.std.proofs.Common.{◌≡◌, [], sym, ap, ◌∙◌, arith}
use Rattle.std.proofs.lemmas.Grind.{common_steps}
use Rattle.abc_state.specs.inner.Examples.{forms_onto}
use Rattle.abc_state.proofs.ExampleForms.{forms_all, onto_last}
use Rattle.abc_state.proofs.examples.common.Goals as goal

pub shapes-preserved : goal.shapes-preserved
shapes-preserved c =
    c.shapes.invariant ∙ ap (λ l. forms_onto l c.shapes.shape) c.in-Some.ensures.items ∙ onto_last c.pop.new.self.items c.in-Some.last c.shapes.shape ∙ ap (forms_onto c.pop.new.self.items) (sym c.in_ok-shape.ensures)

pub returns : goal.returns
returns c =
    let none : c.shapes.rest.items ≡ [] = grind (arith, common_steps) in
    sym (forms_all c.args.shapes.items ∙ c.shapes.invariant ∙ ap (λ l. forms_onto l c.shapes.shape) none)
