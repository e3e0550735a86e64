use Rattle.std.proofs.Common.{map, ap, ◌∙◌}
use Rattle.abc_state.specs.Views.{at, formal_of, scope_of, state_of}
use Rattle.abc_acts.proofs.Acting.{left_so}
use Rattle.abc_acts.proofs.calls.leave.Goals as goal

pub returns-clause-agrees : goal.returns-clause-agrees
returns-clause-agrees c = λ line lines ended.
    left_so (at (scope_of c.args.scope.now) line) c.args.caller.names c.enter-names.result.names (map formal_of c.args.caller.formals) (map formal_of c.as_slice.result.now)
    (state_of c.args.run.now c.args.targets.now lines ended) (state_of c.enter-names.new.run c.args.targets.now lines ended) (state_of c.put_back.new.run c.put_back.new.targets lines ended) c.put_back.result
    (ap (map formal_of) (c.as_slice.ensures ∙ c.enter-names.ensures.formals)) c.enter-names.ensures.names (c.enter-names.ensures.state c.args.targets.now lines ended) (c.put_back.ensures.agrees line lines ended)
