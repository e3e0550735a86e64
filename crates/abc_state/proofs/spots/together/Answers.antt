use Rattle.std.proofs.Common.{◌≡◌, ◌++◌, ◌∷◌, [], ap, map, Some, ◌∙◌, arith}
use Rattle.std.proofs.lemmas.Grind.{common_steps}
use Rattle.std.proofs.lemmas.List.{append-nil}
use Rattle.std.specs.Vec.Iter.{into_iter_items}
use Rattle.abc_meaning.specs.State.{several, row}
use Rattle.abc_state.specs.Views.{address_of}
use Rattle.abc_state.proofs.JoinedPlaces.{not_together, all_together, several_places}
use Rattle.abc_state.proofs.spots.together.Goals as goal

pub returns-in_default : goal.returns-in_default
returns-in_default c =
    not_together c.loop-spot.all.items (into_iter_items c.next.new.self) c.args.spots.items
    (c.loop-spot.invariant ∙ ap (λ l. map (λ a. Some a) c.loop-spot.all.items ++ l) (c.in-Some.ensures.steps.0 ∙ ap (λ x. x ∷ into_iter_items c.next.new.self) c.in_default.is))

pub returns : goal.returns
returns c =
    let none : into_iter_items c.loop-spot.spot-iterator ≡ [] = grind (arith, common_steps, c.in-None.ensures.steps.0) in
    ap (λ x. Some x) (several_places c.from_vec.result ∙ ap (λ l. several (row (map address_of l))) c.from_vec.ensures)
    ∙ all_together c.loop-spot.all.items c.args.spots.items (c.loop-spot.invariant ∙ ap (λ l. map (λ a. Some a) c.loop-spot.all.items ++ l) none ∙ append-nil _)
