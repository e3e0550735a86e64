use Rattle.abc_state.specs.Views.{scope_of}
use Rattle.abc_call_steps.proofs.CallLemmas.{unit_within, unit_falls}
use Rattle.abc_call_steps.proofs.calls.enter.Goals as goal

pub returns-in-Some-clause-within : goal.returns-in-Some-clause-within
returns-in-Some-clause-within c = unit_within c.args.units.now c.args.template.now c.in-Some.unit.now (scope_of c.enter_unit.new.scope) c.enter_unit.result c.in-Some.ensures.unit c.enter_unit.ensures.within

pub returns-in-Some-clause-falls : goal.returns-in-Some-clause-falls
returns-in-Some-clause-falls c = unit_falls c.args.units.now c.args.template.now c.in-Some.unit.now c.enter_unit.new.run.left c.args.run.now.left c.enter_unit.result c.in-Some.ensures.unit c.enter_unit.ensures.falls
