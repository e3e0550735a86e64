use Rattle.std.proofs.Common.{◌≡◌, ◌≤◌, length, map, true, false, sym, subst, ap, ◌∙◌, refl, arith, is_some}
use Rattle.std.proofs.lemmas.Result.{err_from_is_err_and}
use Rattle.abc_value.specs.Parts.{parts_of}
use Rattle.abc_meaning.specs.Changing.{fielded, put_parts}
use Rattle.abc_state.specs.Agrees.{Agrees}
use Rattle.abc_state.specs.Views.{at, address_of, scope_of, state_of}
use Rattle.abc_acts.specs.inner.Fields.{have_match, fields_at, all_fields_at}
use Rattle.abc_state.proofs.JoinedPlaces.{several_places}
use Rattle.abc_acts.proofs.Rows.{goes_next, stops_next}
use Rattle.abc_acts.proofs.Matching.{match_lost, match_next, puts_next, puts_end, first_true, second_true, match_several, several_fields}
use Rattle.abc_acts.proofs.fields.+putting.Goals as goal

pub put_each-returns-in_default-clause-agrees : goal.put_each-returns-in_default-clause-agrees
put_each-returns-in_default-clause-agrees t c = λ m line lines ended.
    let lost = match_lost c.args.spots.now (parts_of c.args.compound.now) c.loop-place.place c.index-spots-place.result c.loop-place-test.true c.index-spots-place.is (sym c.in_default.ensures) in
    let e : false ≡ true = sym lost ∙ c.loop-place.invariant.match m in absurd (cc)

pub put_each-returns-in_err-put_matching-clause-agrees : goal.put_each-returns-in_err-put_matching-clause-agrees
put_each-returns-in_err-put_matching-clause-agrees t c = λ m line lines ended.
    let next = sym (match_next c.args.spots.now (parts_of c.args.compound.now) c.loop-place.place c.index-spots-place.result c.in-Some.field.now c.loop-place-test.true c.index-spots-place.is (sym c.in-Some.ensures)) ∙ c.loop-place.invariant.match m in
    let p = err_from_is_err_and c.from_residual.result c.from_residual.ensures.1 in
    rw (p.1, p.2) (stops_next line c.in_err-put_matching.field-0.0 (state_of c.put_matching.new.run c.put_matching.new.targets lines ended) _ _ _
    (c.loop-place.invariant.leads m line lines ended
    ∙ puts_next (at (scope_of c.args.scope.now) line) c.args.spots.now (parts_of c.args.compound.now) c.loop-place.place c.index-spots-place.result c.in-Some.field.now (state_of c.loop-place.run c.loop-place.targets lines ended)
    c.loop-place-test.true c.index-spots-place.is (sym c.in-Some.ensures) (c.loop-place.invariant.match m))
    (c.in_err-put_matching.ensures.agrees (first_true _ _ next) line lines ended))

pub put_each-loop-place-preserved : goal.put_each-loop-place-preserved
put_each-loop-place-preserved t c = record {
  match = λ m. second_true _ _ (sym (match_next c.args.spots.now (parts_of c.args.compound.now) c.loop-place.place c.index-spots-place.result c.in-Some.field.now c.loop-place-test.true c.index-spots-place.is (sym c.in-Some.ensures)) ∙ c.loop-place.invariant.match m);
  leads = λ m line lines ended.
      let next = sym (match_next c.args.spots.now (parts_of c.args.compound.now) c.loop-place.place c.index-spots-place.result c.in-Some.field.now c.loop-place-test.true c.index-spots-place.is (sym c.in-Some.ensures)) ∙ c.loop-place.invariant.match m in
      c.loop-place.invariant.leads m line lines ended
      ∙ goes_next _ _ _ _ tt (state_of c.put_matching.new.run c.put_matching.new.targets lines ended)
      (puts_next (at (scope_of c.args.scope.now) line) c.args.spots.now (parts_of c.args.compound.now) c.loop-place.place c.index-spots-place.result c.in-Some.field.now (state_of c.loop-place.run c.loop-place.targets lines ended)
      c.loop-place-test.true c.index-spots-place.is (sym c.in-Some.ensures) (c.loop-place.invariant.match m))
      (c.in_ok-put_matching.ensures.agrees (first_true _ _ next) line lines ended) refl;
  left = c.in_ok-put_matching.ensures.left ∙ c.loop-place.invariant.left;
}

pub put_each-returns-clause-agrees : goal.put_each-returns-clause-agrees
put_each-returns-clause-agrees t c = λ m line lines ended.
    let l : length c.args.spots.now ≤ c.loop-place.place = omega arith in
    c.loop-place.invariant.leads m line lines ended ∙ puts_end (at (scope_of c.args.scope.now) line) c.args.spots.now (parts_of c.args.compound.now) c.loop-place.place (state_of c.loop-place.run c.loop-place.targets lines ended) l

pub put_matching-returns-in-Several-clause-agrees : goal.put_matching-returns-in-Several-clause-agrees
put_matching-returns-in-Several-clause-agrees t c = λ m line lines ended.
    let v = c.args.value.now in
    let place = ap address_of c.in-Several.is ∙ several_places c.in-Several.all in
    let some = ap (λ a. is_some (fielded a v)) (sym place) ∙ m in
    let e : fields_at (address_of c.args.spot.now) v ≡ all_fields_at (map address_of c.as_slice-in-Several.result.now) (parts_of v) =
    ap (λ a. fields_at a v) place ∙ several_fields (map address_of c.in-Several.all) v some ∙ ap (λ l. all_fields_at (map address_of l) (parts_of v)) (sym c.as_slice-in-Several.ensures) in
    subst (λ ps. Agrees (λ _. tt) line c.put_each.result (state_of c.put_each.new.run c.put_each.new.targets lines ended) (put_parts (at (scope_of c.args.scope.now) line) ps (state_of c.args.run.now c.args.targets.now lines ended)))
    (sym e) (c.put_each.ensures.agrees (ap (λ l. have_match (map address_of l) (parts_of v)) c.as_slice-in-Several.ensures ∙ match_several (map address_of c.in-Several.all) v some) line lines ended)
