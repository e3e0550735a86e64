use Rattle.std.proofs.lemmas.Result.{err_from_is_err_and}
use Rattle.abc_acts.proofs.Adding.{frame_halts}
use Rattle.abc_acts.proofs.calls.formal_names.Goals as goal

pub returns-in_err-add_actuals : goal.returns-in_err-add_actuals
returns-in_err-add_actuals c =
    let p = err_from_is_err_and c.from_residual.result c.from_residual.ensures.1 in
    rw (p.1, p.2) (frame_halts c.args.unit.now c.as_slice.result.now c.args.actuals.items _ c.add_actuals.new.found.items c.in_err-add_actuals.field-0.0 c.as_slice.ensures c.in_err-add_actuals.ensures)
