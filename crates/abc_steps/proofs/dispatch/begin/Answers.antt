-- Answers for begin.
use Rattle.std.proofs.Common.{ap, drop}
use Rattle.abc_state.specs.Views.{scope_of}
use Rattle.abc_pending.specs.Views.{job_of}
use Rattle.abc_command_steps.proofs.Asking.{calls_as}
use Rattle.abc_steps.proofs.Asking.{job_wants}
use Rattle.abc_steps.proofs.dispatch.begin.Goals as goal

-- a suite calls as its first command does, whether it goes on or not
pub returns-in-Ok-clause-calls : goal.returns-in-Ok-clause-calls
returns-in-Ok-clause-calls g c =
    calls_as _ _ _ _ _
    (job_wants c.args.units.now (scope_of c.args.scope.now) c.args.work.0 c.args.run.now c.args.targets.now (job_of c.args.work.1) (drop c.in-Perform.at c.in-Perform.suite.now) (ap job_of c.in-Perform.is))
    c.perform_at.ensures.calls

pub returns-in-Err-clause-calls : goal.returns-in-Err-clause-calls
returns-in-Err-clause-calls g c =
    calls_as _ _ _ _ _
    (job_wants c.args.units.now (scope_of c.args.scope.now) c.args.work.0 c.args.run.now c.args.targets.now (job_of c.args.work.1) (drop c.in-Perform.at c.in-Perform.suite.now) (ap job_of c.in-Perform.is))
    c.perform_at.ensures.calls
