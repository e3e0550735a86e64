use Rattle.std.proofs.Common.{subst, sym}
use Rattle.abc_state.specs.Views.{scope_of, state_of}
use Rattle.abc_pending.specs.Views.{Begins}
use Rattle.abc_test_steps.proofs.AtOnce.{chain_lighter}
use Rattle.abc_test_steps.proofs.Chains.{chain_later}
use Rattle.abc_test_steps.proofs.testing.compare.Goals as goal

pub returns-in-len1-up-clause-leads : goal.returns-in-len1-up-clause-leads
returns-in-len1-up-clause-leads c = λ units lines ended.
    let s = state_of c.args.run.now c.args.targets.now lines ended in
    let scope = scope_of c.args.scope.now in
    subst (Begins units scope c.args.place.line c.see_link.result s)
    (sym (chain_later units scope c.args.place c.args.value c.args.links.now c.first-item.result s c.in-len1-up.len_at_least c.first-item.is))
    (c.see_link.ensures.leads units lines ended)

pub returns-in-len1-up-clause-falls : goal.returns-in-len1-up-clause-falls
returns-in-len1-up-clause-falls c =
    chain_lighter c.see_link.result c.args.links.now c.first-item.result c.in-len1-up.len_at_least c.first-item.is c.see_link.ensures.falls
