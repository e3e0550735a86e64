use Rattle.std.proofs.Common.{ap, ◌∙◌}
use Rattle.abc_meaning.specs.Calls.{then_on}
use Rattle.abc_meaning.specs.Acts.{turns}
use Rattle.abc_meaning.specs.Meaning.{meaning}
use Rattle.abc_state.specs.Views.{at, flow_of}
use Rattle.abc_pending.specs.Leads.{as_flow}
use Rattle.abc_command_steps.proofs.Levels.{turns_at_zero}
use Rattle.abc_command_steps.proofs.commands.turn_on.Goals as goal

pub returns-then-turns-eq0-clause-leads : goal.returns-then-turns-eq0-clause-leads
returns-then-turns-eq0-clause-leads c = λ units scope s _.
    ap (λ x. as_flow (then_on (flow_of x) (turns (meaning units c.args.place.levels) (at scope c.args.place.line) c.args.turns c.args.test.now c.args.suite.now) s)) c.in-GoesOn.is
    ∙ ap as_flow (turns_at_zero (meaning units c.args.place.levels) (at scope c.args.place.line) c.args.turns c.args.test.now c.args.suite.now s c.if-turns-eq0.true)
