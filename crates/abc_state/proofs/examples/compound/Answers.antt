use Rattle.std.proofs.Common.{◌≡◌, ◌++◌, ◌∷◌, [], Some, map, option_map, sym, ap, ◌∙◌, arith}
use Rattle.std.proofs.lemmas.Grind.{common_steps}
use Rattle.std.proofs.lemmas.List.{append-nil}
use Rattle.std.specs.Vec.Iter.{into_iter_items}
use Rattle.abc_value.specs.Forms.{a_compound, forms}
use Rattle.abc_meaning.specs.Fits.{fields_in}
use Rattle.abc_state.proofs.ExampleForms.{fields_there, fields_lost}
use Rattle.abc_state.proofs.examples.compound.Goals as goal

pub returns-in_default : goal.returns-in_default
returns-in_default c =
    sym (ap (λ l. option_map (λ fields. a_compound (forms fields)) (fields_in l))
    (c.loop-shape.invariant ∙ ap (λ l. map (λ f. Some f) c.loop-shape.fields.items ++ l) (c.in-Some.ensures.steps.0 ∙ ap (λ x. x ∷ into_iter_items c.next.new.self) c.in_default.is))
    ∙ ap (option_map (λ fields. a_compound (forms fields))) (fields_lost c.loop-shape.fields.items (into_iter_items c.next.new.self)))

pub returns : goal.returns
returns c =
    let none : into_iter_items c.loop-shape.shape-iterator ≡ [] = grind (arith, common_steps, c.in-None.ensures.steps.0) in
    ap (λ x. Some x) c.compound.ensures
    ∙ sym (ap (λ l. option_map (λ fields. a_compound (forms fields)) (fields_in l)) (c.loop-shape.invariant ∙ ap (λ l. map (λ f. Some f) c.loop-shape.fields.items ++ l) none ∙ append-nil _)
    ∙ ap (option_map (λ fields. a_compound (forms fields))) (fields_there c.loop-shape.fields.items))
