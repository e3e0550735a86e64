use Rattle.std.proofs.Common.{sym, ap, subst}
use Rattle.abc_state.specs.Views.{at, scope_of, state_of, flow_of}
use Rattle.abc_meaning.specs.Meaning.{meaning}
use Rattle.abc_pending.specs.Leads.{caller_of, resume_flow}
use Rattle.abc_pending.specs.Views.{Begins, flow_frame}
use Rattle.abc_steps.proofs.Ends.{refinement_ends}
use Rattle.abc_steps.proofs.dispatch.take_exit.Goals as goal

pub returns-in-RefinementEnd-clause-leads : goal.returns-in-RefinementEnd-clause-leads
returns-in-RefinementEnd-clause-leads c = λ units lines ended.
    let back = state_of (record c.args.run.now { names = c.in-RefinementEnd.names }) c.back.new.self lines ended in
    let before = state_of c.args.run.now c.args.targets.now lines ended in
    subst (λ frame. Begins units (scope_of c.args.scope.now) c.args.place.line c.leave_with.result back (resume_flow units (meaning units c.args.place.levels) (at (caller_of (scope_of c.args.scope.now) (flow_frame frame)) c.args.place.line) (flow_frame frame) (flow_of c.args.exit) before))
    (sym c.in-RefinementEnd.is)
    (refinement_ends units (scope_of c.args.scope.now) c.args.place.line c.args.place.levels c.in-RefinementEnd.wanted c.in-RefinementEnd.kept c.in-RefinementEnd.names c.leave_with.result (flow_of c.args.exit) before back
    (ap (λ targets. state_of (record c.args.run.now { names = c.in-RefinementEnd.names }) targets lines ended) c.back.ensures)
    (c.leave_with.ensures.leads units (scope_of c.args.scope.now) (at (scope_of c.args.scope.now) c.args.place.line) back))
