use Rattle.std.proofs.Common.{◌∙◌, refl}
use Rattle.std.proofs.lemmas.Result.{err_from_is_err_and}
use Rattle.abc_state.specs.Views.{at, scope_of, state_of}
use Rattle.abc_acts.proofs.Rows.{goes_next, stops_next}
use Rattle.abc_acts.proofs.Acting.{puts_back_next}
use Rattle.abc_acts.proofs.calls.put_back.Goals as goal

pub returns-in_err-put_one-clause-agrees : goal.returns-in_err-put_one-clause-agrees
returns-in_err-put_one-clause-agrees c = λ line lines ended.
    let p = err_from_is_err_and c.from_residual.result c.from_residual.ensures.1 in
    rw (p.1, p.2) (stops_next line c.in_err-put_one.field-0.0 (state_of c.put_one.new.run c.put_one.new.targets lines ended) _ _ _
    (c.loop-formal.invariant.leads line lines ended
    ∙ puts_back_next (at (scope_of c.args.scope.now) line) c.args.names.now c.args.formals.now c.loop-formal.formal-index c.formal-item.result (state_of c.loop-formal.run c.loop-formal.targets lines ended) c.loop-formal-test.true c.formal-item.is)
    (c.in_err-put_one.ensures.agrees line lines ended))

pub loop-formal-preserved : goal.loop-formal-preserved
loop-formal-preserved c = record {
  leads = λ line lines ended.
      c.loop-formal.invariant.leads line lines ended
      ∙ goes_next _ _ _ _ tt (state_of c.put_one.new.run c.put_one.new.targets lines ended)
      (puts_back_next (at (scope_of c.args.scope.now) line) c.args.names.now c.args.formals.now c.loop-formal.formal-index c.formal-item.result (state_of c.loop-formal.run c.loop-formal.targets lines ended) c.loop-formal-test.true c.formal-item.is)
      (c.in_ok-put_one.ensures.agrees line lines ended) refl;
  left = c.in_ok-put_one.ensures.left ∙ c.loop-formal.invariant.left;
}
