use Rattle.std.proofs.Common.{◌≡◌, map, sym, subst, ap, ◌∙◌, IfOk}
use Rattle.std.specs.List.{list_all}
use Rattle.abc_meaning.specs.State.{several, row}
use Rattle.abc_meaning.specs.Changing.{parts}
use Rattle.abc_meaning.specs.PutBack.{has_value}
use Rattle.abc_state.specs.Views.{address_of, scope_of, state_of}
use Rattle.abc_state.proofs.JoinedPlaces.{several_places}
use Rattle.abc_acts.proofs.changes.+values.Goals as goal

pub has_values-returns-in-Several : goal.has_values-returns-in-Several
has_values-returns-in-Several t c = λ lines ended.
    let e : address_of c.args.spot.now ≡ several (row (map address_of c.as_slice-in-Several.result.now)) =
    ap address_of c.in-Several.is ∙ several_places c.in-Several.all ∙ ap (λ l. several (row (map address_of l))) (sym c.as_slice-in-Several.ensures) in
    subst (λ a. IfOk c.have_values.result (λ b. b ≡ list_all (has_value (scope_of c.args.scope.now) (state_of c.args.run.now c.args.targets.now lines ended)) (parts a))) (sym e) (c.have_values.ensures lines ended)
