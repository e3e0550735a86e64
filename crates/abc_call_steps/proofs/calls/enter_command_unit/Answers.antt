use Rattle.std.proofs.Common.{ap, ◌∙◌, map}
use Rattle.abc_state.specs.Views.{at, scope_of, state_of, formal_of}
use Rattle.abc_acts.specs.Words.{entry_view}
use Rattle.abc_pending.specs.Views.{actuals_of}
use Rattle.abc_call_steps.proofs.CallLemmas.{command_unit_begins}
use Rattle.abc_call_steps.proofs.calls.enter_command_unit.Goals as goal

pub returns-clause-leads : goal.returns-clause-leads
returns-clause-leads c = λ units targets lines ended.
    rw c.in_ok-caller.ensures (command_unit_begins units c.args.place (scope_of c.args.scope.now) (scope_of c.replace-outer.result) (scope_of c.replace-outer.new.dest) c.args.unit.now (actuals_of c.args.actuals.items)
    (state_of c.args.run.now targets lines ended) (state_of c.spend.new.self targets lines ended) (state_of c.enter-entry.new.run targets lines ended) (entry_view c.in_ok-entry.entry)
    c.enter-entry.result.names (map formal_of c.enter-entry.result.formals)
    (c.in_ok-spend.ensures.agrees targets lines ended (at (scope_of c.args.scope.now) c.args.place.line))
    c.in_ok-entry.ensures
    (ap scope_of c.replace-outer.ensures.after ∙ c.in_ok-inner.ensures)
    (ap scope_of c.replace-outer.ensures.value)
    c.enter-entry.ensures.names
    (ap (map formal_of) c.enter-entry.ensures.formals)
    (c.enter-entry.ensures.state targets lines ended))
