use Rattle.abc_meaning.specs.Addresses.{address}
use Rattle.abc_meaning.specs.Meaning.{meaning}
use Rattle.abc_state.specs.Views.{at, address_of, scope_of, state_of}
use Rattle.abc_pending.proofs.Addresses.{told_some}
use Rattle.abc_command_steps.proofs.Changing.{address_goes, address_stops}
use Rattle.abc_command_steps.proofs.commands.change_at.Goals as goal

pub returns-in-Ok-Some-clause-leads : goal.returns-in-Ok-Some-clause-leads
returns-in-Ok-Some-clause-leads c = λ units lines ended.
    let scope = scope_of c.args.scope.now in
    let here = at scope c.args.place.line in
    let before = state_of c.args.run.now c.args.targets.now lines ended in
    let now = state_of c.change_there.new.run c.change_there.new.targets lines ended in
    address_goes units here scope c.args.place.line c.change_there.result before now c.args.what c.args.value
    (address (meaning units c.args.place.levels) here c.args.address.now before) (address_of c.in-Ok-Some.spot)
    (told_some address_of c.args.place.line c.in-Ok-Some.field-0 c.in-Ok-Some.spot before (address (meaning units c.args.place.levels) here c.args.address.now before) c.in-Ok-Some.field-0-is (c.in-Ok-Some.ensures.tells units lines ended))
    (c.change_there.ensures.leads units lines ended)

pub returns-in-Err-clause-leads : goal.returns-in-Err-clause-leads
returns-in-Err-clause-leads c = λ units lines ended.
    let here = at (scope_of c.args.scope.now) c.args.place.line in
    let before = state_of c.args.run.now c.args.targets.now lines ended in
    address_stops here c.args.place.line c.in-Err.halt before c.args.what c.args.value (address (meaning units c.args.place.levels) here c.args.address.now before) (c.in-Err.ensures.tells units lines ended)
