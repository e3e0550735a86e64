-- Answers for perform_at.
use Rattle.std.proofs.Common.{refl, ap}
use Rattle.abc_state.specs.Views.{at as standing_at}
use Rattle.abc_state.specs.Views.{scope_of}
use Rattle.abc_pending.specs.Weights.{first_size}
use Rattle.abc_command_steps.proofs.performing.perform_at.Goals as goal
use Rattle.abc_pending.proofs.Falling.{unspent}
use Rattle.abc_command_steps.proofs.Asking.{calls_as, failed_as, first_wants}
use Rattle.abc_command_steps.proofs.Reading.{first_of_none, first_falls}

-- nothing is left of the suite
pub returns-in-None-clause-falls : goal.returns-in-None-clause-falls
returns-in-None-clause-falls g c units = unspent units _ _ _ _ refl (first_of_none _ c.in-None.ensures.none)

-- its first command falls
pub returns-in-Some-clause-falls : goal.returns-in-Some-clause-falls
returns-in-Some-clause-falls g c units = first_falls units _ _ _ _ c.perform.result (ap first_size c.in-Some.ensures.some) c.perform.ensures.falls

-- and calls are made as it makes them
pub returns-in-Some-clause-calls : goal.returns-in-Some-clause-calls
returns-in-Some-clause-calls g c =
    calls_as _ _ _ _ _ (first_wants c.args.place.levels (standing_at (scope_of c.args.scope.now) c.args.place.line) c.args.run.now _ _ _ c.in-Some.ensures.some) c.perform.ensures.calls

pub returns-in-Some-clause-failed : goal.returns-in-Some-clause-failed
returns-in-Some-clause-failed g c = λ how.
    failed_as _ _ _ _ _ (first_wants c.args.place.levels (standing_at (scope_of c.args.scope.now) c.args.place.line) c.args.run.now _ _ _ c.in-Some.ensures.some) (c.perform.ensures.failed how)
