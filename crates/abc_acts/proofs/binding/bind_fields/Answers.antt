use Rattle.std.proofs.lemmas.Result.{err_from_is_err_and}
use Rattle.abc_state.specs.Views.{at, scope_of, state_of}
use Rattle.abc_acts.proofs.Adding.{bind_halts}
use Rattle.abc_acts.proofs.binding.bind_fields.Goals as goal

pub returns-in_err-add_bindings-clause-agrees : goal.returns-in_err-add_bindings-clause-agrees
returns-in_err-add_bindings-clause-agrees c = λ line lines ended.
    let p = err_from_is_err_and c.from_residual.result c.from_residual.ensures.1 in
    rw (p.1, p.2) (bind_halts (at (scope_of c.args.scope.now) line) c.args.bound.now c.args.value.now _ c.add_bindings.new.found.items c.in_err-add_bindings.field-0.0 (state_of c.args.run.now c.args.targets.now lines ended) c.in_err-add_bindings.ensures)
