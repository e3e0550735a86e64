-- Answers for perform.
use Rattle.std.proofs.Common.{false, [], ap, sym}
use Rattle.abc_state.specs.Views.{at as standing_at, scope_of}
use Rattle.abc_command_steps.proofs.Asking.{calls_as, command_wants}
use Rattle.abc_command_steps.proofs.performing.perform.Goals as goal

-- a command that is a step calls as its node does
pub returns-in-Ok-clause-calls : goal.returns-in-Ok-clause-calls
returns-in-Ok-clause-calls g c =
    calls_as _ _ _ _ _
    (command_wants c.args.place.levels c.args.place.line (scope_of c.args.scope.now) c.line_at-line.result c.args.run.now c.spend.new.self c.args.action.now c.if-place-eq0.false
    (sym (ap (standing_at (scope_of c.args.scope.now)) c.line_at-line.ensures))
    (λ targets. c.in-Ok.ensures.agrees targets [] false (standing_at (scope_of c.args.scope.now) c.line_at-line.result)))
    c.act.ensures.calls
