use Rattle.std.proofs.Common.{sym, ap, ◌∙◌, map, subst}
use Rattle.abc_state.specs.Views.{at, scope_of, state_of, formal_of, flow_of}
use Rattle.abc_pending.specs.Leads.{resume_flow}
use Rattle.abc_pending.specs.Views.{Begins, call_end}
use Rattle.abc_meaning.specs.Meaning.{meaning}
use Rattle.abc_call_steps.proofs.CallLemmas.{call_ends}
use Rattle.abc_call_steps.proofs.calls.end_call.Goals as goal

pub returns-in-With-clause-leads : goal.returns-in-With-clause-leads
returns-in-With-clause-leads c = λ units outer line levels lines ended.
    subst (λ how. Begins units (scope_of c.args.scope.now) line c.leave_with.result (state_of c.enter-ended.new.run c.back.new.self lines ended) (resume_flow units (meaning units levels) (at (scope_of c.args.scope.now) line) (call_end how c.args.caller.names (map formal_of c.args.caller.formals) outer) (flow_of c.args.exit) (state_of c.args.run.now c.args.targets.now lines ended)))
    (sym c.in-With.is)
    (call_ends units (scope_of c.args.scope.now) outer line levels c.in-With.wanted c.in-With.kept c.args.caller.names (map formal_of c.args.caller.formals) c.leave_with.result (flow_of c.args.exit)
    (state_of c.args.run.now c.args.targets.now lines ended) (state_of c.enter-ended.new.run c.back.new.self lines ended)
    (c.enter-ended.ensures.state c.back.new.self lines ended ∙ ap (λ targets. record (state_of c.args.run.now c.args.targets.now lines ended) { targets = targets; names = c.args.caller.names; formals = map formal_of c.args.caller.formals }) c.back.ensures)
    (c.leave_with.ensures.leads units (scope_of c.args.scope.now) (at (scope_of c.args.scope.now) line) (state_of c.enter-ended.new.run c.back.new.self lines ended)))
