use Rattle.std.proofs.Common.{◌-◌, ap, ◌∙◌}
use Rattle.abc_meaning.specs.State.{State}
use Rattle.abc_meaning.specs.Meaning.{meaning}
use Rattle.abc_meaning.specs.Ran.{standing}
use Rattle.abc_state.specs.Views.{scope_of}
use Rattle.abc_pending.specs.Leads.{as_flow}
use Rattle.abc_pending.specs.Steps.{state_with}
use Rattle.abc_machine.proofs.Starting.{started, started_state, with_left}
use Rattle.abc_machine.proofs.machine.Machine.start.Goals as goal

pub returns-clause-leads : goal.returns-clause-leads
returns-clause-leads c = λ units targets unread budget.
    started units (scope_of c.in_ok-scope.scope) c.args.c.now c.new.result 1001 (with_left (budget - 0) (state_with c.new-2.result targets unread)) c.in_ok-scope.ensures c.new.ensures
    ∙ ap (λ (s : State). as_flow ((meaning units 1001).acts (standing c.args.c.now) c.args.c.now.action s)) (started_state c.new-2.result targets unread budget (c.new-2.ensures targets))
