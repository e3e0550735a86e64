use Rattle.std.proofs.Common.{◌≡◌, ◌≤◌, ◌&&◌, ◌+◌, length, map, drop, sym, subst, ap, ◌∙◌, arith, None, Some, is_some, is_none, slice_get}
use Rattle.abc_value.specs.Parts.{parts_of}
use Rattle.abc_meaning.specs.Changing.{fielded}
use Rattle.abc_state.specs.Views.{address_of}
use Rattle.abc_acts.specs.inner.Fields.{have_match}
use Rattle.abc_state.proofs.JoinedPlaces.{several_places}
use Rattle.abc_acts.proofs.Matching.{match_lost, match_next, match_end, several_match}
use Rattle.abc_acts.proofs.fields.+matching.Goals as goal

pub match_fields-returns-in_default : goal.match_fields-returns-in_default
match_fields-returns-in_default t c =
    sym (c.loop-place.invariant ∙ match_lost c.args.spots.now (parts_of c.args.compound.now) c.loop-place.place c.index-spots-place.result c.loop-place-test.true c.index-spots-place.is (sym c.in_default.ensures))

pub match_fields-returns-then-not-matches_value : goal.match_fields-returns-then-not-matches_value
match_fields-returns-then-not-matches_value t c =
    sym (c.loop-place.invariant ∙ match_next c.args.spots.now (parts_of c.args.compound.now) c.loop-place.place c.index-spots-place.result c.in-Some.field.now c.loop-place-test.true c.index-spots-place.is (sym c.in-Some.ensures)
    ∙ ap (λ b. b && have_match (map address_of (drop (c.loop-place.place + 1) c.args.spots.now)) (drop (c.loop-place.place + 1) (parts_of c.args.compound.now))) (sym c.matches_value.ensures ∙ c.if-not-matches_value.true))

pub match_fields-loop-place-preserved : goal.match_fields-loop-place-preserved
match_fields-loop-place-preserved t c =
    c.loop-place.invariant ∙ match_next c.args.spots.now (parts_of c.args.compound.now) c.loop-place.place c.index-spots-place.result c.in-Some.field.now c.loop-place-test.true c.index-spots-place.is (sym c.in-Some.ensures)
    ∙ ap (λ b. b && have_match (map address_of (drop (c.loop-place.place + 1) c.args.spots.now)) (drop (c.loop-place.place + 1) (parts_of c.args.compound.now))) (sym c.matches_value.ensures ∙ c.if-not-matches_value.false)

pub match_fields-returns-in-None : goal.match_fields-returns-in-None
match_fields-returns-in-None t c =
    let vs = parts_of c.args.compound.now in
    let e : length c.args.spots.now ≡ c.loop-place.place = omega arith in
    let l : length c.args.spots.now ≤ c.loop-place.place = omega arith in
    sym (c.loop-place.invariant ∙ match_end c.args.spots.now vs c.loop-place.place l ∙ ap is_none (subst (λ m. slice_get vs m ≡ None) e (sym c.in-None.ensures)))

pub match_fields-returns-in-Some-part : goal.match_fields-returns-in-Some-part
match_fields-returns-in-Some-part t c =
    let vs = parts_of c.args.compound.now in
    let e : length c.args.spots.now ≡ c.loop-place.place = omega arith in
    let l : length c.args.spots.now ≤ c.loop-place.place = omega arith in
    sym (c.loop-place.invariant ∙ match_end c.args.spots.now vs c.loop-place.place l ∙ ap is_none (subst (λ m. slice_get vs m ≡ Some c.in-Some-part.field-0.now) e (sym c.in-Some-part.ensures)))

pub matches_value-returns-in-Compound : goal.matches_value-returns-in-Compound
matches_value-returns-in-Compound t c =
    let v = c.args.value.now in
    c.match_fields.ensures ∙ ap (λ l. have_match (map address_of l) (parts_of v)) c.as_slice.ensures
    ∙ ap is_some (sym (several_match (map address_of c.in-Several.all) v (sym c.kind.ensures ∙ c.in-Compound.is)))
    ∙ ap (λ a. is_some (fielded a v)) (sym (ap address_of c.in-Several.is ∙ several_places c.in-Several.all))
