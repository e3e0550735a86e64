use Rattle.std.proofs.Common.{◌∙◌, refl}
use Rattle.std.proofs.lemmas.Result.{err_from_is_err_and}
use Rattle.abc_state.specs.Views.{at, state_of}
use Rattle.abc_acts.proofs.Rows.{marks_next, goes_next, stops_next}
use Rattle.abc_acts.proofs.changes.+mark.Goals as goal

pub mark_spots-returns-in_err-mark_spot-clause-agrees : goal.mark_spots-returns-in_err-mark_spot-clause-agrees
mark_spots-returns-in_err-mark_spot-clause-agrees t c = λ line scope targets lines ended.
    let p = err_from_is_err_and c.from_residual.result c.from_residual.ensures.1 in
    rw (p.1, p.2) (stops_next line c.in_err-mark_spot.field-0.0 (state_of c.mark_spot.new.run targets lines ended) _ _ _
    (c.loop-spot.invariant.leads line scope targets lines ended ∙ marks_next (at scope line) c.args.spots.now c.loop-spot.spot-index c.spot-item.result (state_of c.loop-spot.run targets lines ended) c.loop-spot-test.true c.spot-item.is)
    (c.in_err-mark_spot.ensures.agrees line scope targets lines ended))

pub mark_spots-loop-spot-preserved : goal.mark_spots-loop-spot-preserved
mark_spots-loop-spot-preserved t c = record {
  leads = λ line scope targets lines ended.
      c.loop-spot.invariant.leads line scope targets lines ended
      ∙ goes_next _ _ _ _ tt (state_of c.mark_spot.new.run targets lines ended)
      (marks_next (at scope line) c.args.spots.now c.loop-spot.spot-index c.spot-item.result (state_of c.loop-spot.run targets lines ended) c.loop-spot-test.true c.spot-item.is)
      (c.in_ok-mark_spot.ensures.agrees line scope targets lines ended) refl;
  left = c.in_ok-mark_spot.ensures.left ∙ c.loop-spot.invariant.left;
}
