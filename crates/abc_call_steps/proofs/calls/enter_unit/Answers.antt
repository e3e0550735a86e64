use Rattle.std.proofs.Common.{ap, ◌∙◌, map}
use Rattle.abc_state.specs.Views.{at, scope_of, state_of, formal_of}
use Rattle.abc_call_steps.proofs.CallLemmas.{unit_begins}
use Rattle.abc_call_steps.proofs.calls.enter_unit.Goals as goal

pub returns-clause-leads : goal.returns-clause-leads
returns-clause-leads c = λ units lines ended.
    rw c.in_ok-caller.ensures (unit_begins units c.args.place (scope_of c.args.scope.now) (scope_of c.replace-outer.result) (scope_of c.replace-outer.new.dest) c.args.wanted c.args.unit.now c.args.actuals.items
    (state_of c.args.run.now c.args.targets.now lines ended) (state_of c.spend.new.self c.args.targets.now lines ended) (state_of c.enter-entry.new.run c.args.targets.now lines ended) c.in_ok-names.names
    c.enter-entry.result.names (map formal_of c.enter-entry.result.formals) c.in_ok-kept.kept
    (c.in_ok-spend.ensures.agrees c.args.targets.now lines ended (at (scope_of c.args.scope.now) c.args.place.line))
    c.in_ok-names.ensures
    (ap scope_of c.replace-outer.ensures.after ∙ c.in_ok-inner.ensures)
    (ap scope_of c.replace-outer.ensures.value)
    c.in_ok-kept.ensures
    c.enter-entry.ensures.names
    (ap (map formal_of) c.enter-entry.ensures.formals)
    (c.enter-entry.ensures.state c.args.targets.now lines ended ∙ ap (λ formals. record (state_of c.spend.new.self c.args.targets.now lines ended) { names = c.in_ok-names.names; formals = map formal_of formals }) c.new-formals.ensures))
