use Rattle.std.proofs.Common.{refl, arith, subst}
use Rattle.abc_state.specs.Views.{scope_of, state_of}
use Rattle.abc_pending.specs.Views.{Begins}
use Rattle.abc_pending.proofs.Falling.{unspent}
use Rattle.abc_call_steps.proofs.CallLemmas.{name_refinement_falls, refined}
use Rattle.abc_call_steps.proofs.calls.refine.Goals as goal

pub returns-in-Some-clause-leads : goal.returns-in-Some-clause-leads
returns-in-Some-clause-leads c = λ units lines ended.
    subst (λ g. Begins units (scope_of c.args.scope.now) c.args.place.line c.refine_into.result (state_of c.refine_into.new.run c.args.targets.now lines ended) g)
    (refined units (scope_of c.args.scope.now) c.args.place c.args.wanted c.args.i c.in-Some.refinement.now (state_of c.args.run.now c.args.targets.now lines ended) c.in-Some.ensures)
    (c.refine_into.ensures.leads units (scope_of c.args.scope.now) lines ended)

pub returns-in-Some-clause-falls : goal.returns-in-Some-clause-falls
returns-in-Some-clause-falls c = λ units within.
    name_refinement_falls units (scope_of c.args.scope.now) c.args.i c.in-Some.refinement.now c.refine_into.new.run.left c.args.run.now.left c.refine_into.result c.in-Some.ensures within c.refine_into.ensures.falls

pub returns-in_ok-value-in-Value-clause-falls : goal.returns-in_ok-value-in-Value-clause-falls
returns-in_ok-value-in-Value-clause-falls c = λ units within. unspent units c.args.run.now.left 0 1 c.args.run.now.left refl (omega arith)
