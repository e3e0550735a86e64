use Rattle.std.proofs.Common.{◌∙◌, refl}
use Rattle.std.proofs.lemmas.Result.{err_from_is_err_and}
use Rattle.abc_state.specs.Views.{at, scope_of, state_of}
use Rattle.abc_acts.proofs.Rows.{deletes_next, goes_next, stops_next}
use Rattle.abc_acts.proofs.changes.+delete.Goals as goal

pub delete_all-returns-in_err-delete-clause-agrees : goal.delete_all-returns-in_err-delete-clause-agrees
delete_all-returns-in_err-delete-clause-agrees t c = λ line lines ended.
    let p = err_from_is_err_and c.from_residual.result c.from_residual.ensures.1 in
    rw (p.1, p.2) (stops_next line c.in_err-delete.field-0.0 (state_of c.delete.new.run c.delete.new.targets lines ended) _ _ _
    (c.loop-spot.invariant.leads line lines ended
    ∙ deletes_next (at (scope_of c.args.scope.now) line) c.args.spots.now c.loop-spot.spot-index c.spot-item.result (state_of c.loop-spot.run c.loop-spot.targets lines ended) c.loop-spot-test.true c.spot-item.is)
    (c.in_err-delete.ensures.agrees line lines ended))

pub delete_all-loop-spot-preserved : goal.delete_all-loop-spot-preserved
delete_all-loop-spot-preserved t c = record {
  leads = λ line lines ended.
      let here = at (scope_of c.args.scope.now) line in
      c.loop-spot.invariant.leads line lines ended
      ∙ goes_next _ _ _ _ tt (state_of c.delete.new.run c.delete.new.targets lines ended)
      (deletes_next here c.args.spots.now c.loop-spot.spot-index c.spot-item.result (state_of c.loop-spot.run c.loop-spot.targets lines ended) c.loop-spot-test.true c.spot-item.is)
      (c.in_ok-delete.ensures.agrees line lines ended) refl;
  left = c.in_ok-delete.ensures.left ∙ c.loop-spot.invariant.left;
}
