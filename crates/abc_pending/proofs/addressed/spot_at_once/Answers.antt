use Rattle.std.proofs.Common.{◌+◌, sym, subst}
use Rattle.abc_num.specs.declared.limits.TheConstants.{MOST_TREE_HEIGHT}
use Rattle.abc_meaning.specs.Addresses.{address_within}
use Rattle.abc_meaning.specs.Meaning.{meaning}
use Rattle.abc_state.specs.Views.{address_of, at, scope_of, state_of}
use Rattle.abc_pending.specs.AtOnce.{Tells}
use Rattle.abc_pending.proofs.Addresses.{whole_address}
use Rattle.abc_pending.proofs.addressed.spot_at_once.Goals as goal

pub returns-clause-tells : goal.returns-clause-tells
returns-clause-tells c = λ units lines ended.
    let s = state_of c.args.run.now c.args.targets.now lines ended in
    let here = at (scope_of c.args.scope.now) c.args.place.line in
    let deep = meaning units c.args.place.levels in
    subst (Tells address_of here.line c.as_spot.result s) (sym (whole_address deep here c.args.e.now s))
    (c.as_spot.ensures.tells here s (address_within deep here (MOST_TREE_HEIGHT + 1) c.args.e.now s) (c.steps_found.ensures.tells units lines ended))
