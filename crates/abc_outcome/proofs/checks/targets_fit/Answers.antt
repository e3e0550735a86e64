use Rattle.std.proofs.Common.{List, Some, sym, subst}
use Rattle.abc_ground.specs.Groups.{whole}
use Rattle.abc_tree.specs.declared.commands.Unit.{Unit as Routine}
use Rattle.abc_check.specs.Cuts.{CutsAreSpelled}
use Rattle.abc_store.specs.Workspace.{with_targets}
use Rattle.abc_store.proofs.Spelled.{units_spelled}
use Rattle.abc_store.proofs.Typed.{if_ok_then, typable_of, typed_from}
use Rattle.abc_outcome.specs.Checks.{IsUpToDate}
use Rattle.abc_outcome.proofs.checks.targets_fit.Goals as goal

pub checker_of-requires-clause-spelled : goal.checker_of-requires-clause-spelled
checker_of-requires-clause-spelled c =
    let units = c.args.store.now.kept.units in
    subst (λ (us : List Routine). CutsAreSpelled (whole us)) (sym c.units.ensures.units) (units_spelled c.regular_templates.ensures c.one_template.ensures units c.units.ensures.kept)

pub returns-clause-fit : goal.returns-clause-fit
returns-clause-fit c =
    let kept = c.args.store.now.kept in
    let units = kept.units in
    let targets = c.args.targets.now in
    let stands = subst (λ (us : List Routine). IsUpToDate (Some c.in_ok-made.made) us) c.units.ensures.units c.in_ok-made.ensures in
    if_ok_then _ _ c.fits-fit.result
    (λ fit exact. (λ is. typed_from targets units ((exact (whole units) stands.1).0 is), λ typed. (exact (whole units) stands.1).1 (typable_of (with_targets kept targets) typed))) c.fits-fit.ensures.exact
