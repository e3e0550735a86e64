use Rattle.std.proofs.Common.{ap}
use Rattle.abc_state.specs.Views.{scope_of, state_of}
use Rattle.abc_pending.specs.Views.{spots_of}
use Rattle.abc_call_steps.proofs.GoingOn.{name_leads, select_later, compound_later}
use Rattle.abc_call_steps.proofs.actuals.see_parts.Goals as goal

pub returns-in-Name-clause-leads : goal.returns-in-Name-clause-leads
returns-in-Name-clause-leads c = λ units lines ended.
    name_leads units (scope_of c.args.scope.now) c.args.place c.see_name.result c.args.e.now c.in-Name.i (state_of c.args.run.now c.args.targets.now lines ended) c.requires c.in-Name.is (c.see_name.ensures.leads units lines ended)

pub returns-in-Select-clause-leads : goal.returns-in-Select-clause-leads
returns-in-Select-clause-leads c = λ units lines ended.
    select_later units (scope_of c.args.scope.now) c.args.place c.args.e.now c.in-Select.t c.in-Select.k c.get-in-Select.result.now c.get.result.now (state_of c.args.run.now c.args.targets.now lines ended) c.requires c.in-Select.is c.get-in-Select.ensures c.get.ensures

pub returns-in-Compound-clause-leads : goal.returns-in-Compound-clause-leads
returns-in-Compound-clause-leads c = λ units lines ended.
    compound_later units (scope_of c.args.scope.now) c.args.place c.args.e.now c.in-Compound.es c.as_slice.result.now c.new.result.items (spots_of c.new-in-Compound.result.items) (state_of c.args.run.now c.args.targets.now lines ended) c.requires c.in-Compound.is c.as_slice.ensures c.new.ensures.items (ap spots_of c.new-in-Compound.ensures.items)
