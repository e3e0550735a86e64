use Rattle.abc_state.specs.Views.{scope_of}
use Rattle.abc_call_steps.proofs.CallLemmas.{command_refinement_falls}
use Rattle.abc_call_steps.proofs.calls.refine_command.Goals as goal

pub returns-in-Some-clause-falls : goal.returns-in-Some-clause-falls
returns-in-Some-clause-falls c = λ units within.
    command_refinement_falls units (scope_of c.args.scope.now) c.args.name.now c.in-Some.refinement.now c.perform_refinement.new.run.left c.args.run.now.left c.perform_refinement.result c.in-Some.ensures within c.perform_refinement.ensures.falls
