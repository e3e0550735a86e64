use Rattle.abc_state.specs.Views.{scope_of, state_of}
use Rattle.abc_state.proofs.Restoring.{again_in}
use Rattle.abc_state.proofs.looking.take.Goals as goal

pub returns-in-Some-clause-again : goal.returns-in-Some-clause-again
returns-in-Some-clause-again c = λ lines ended v.
    again_in c.take_target.result (scope_of c.args.scope.now) c.args.name c.in-Some.target.now v c.args.targets.now c.take_target.new.targets (state_of c.args.run.now c.args.targets.now lines ended) c.in-Some.ensures (c.take_target.ensures.again v)
