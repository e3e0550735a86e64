use Rattle.abc_ground.specs.Groups.{whole}
use Rattle.abc_store.proofs.Spelled.{units_spelled}
use Rattle.abc_store.proofs.Typed.{if_ok_then, typable_of, typed_from}
use Rattle.abc_store.proofs.opening.are_typed.Goals as goal

pub returns : goal.returns
returns c =
    let targets = c.args.targets.now in
    let units = c.args.units.now in
    let stands = c.in_ok-checker.ensures.stands (units_spelled c.regular_templates.ensures c.one_template.ensures units c.requires.kept) in
    if_ok_then _ _ c.fits.result
    (λ fit exact. (λ is. typed_from targets units ((exact (whole units) stands).0 is), λ typed. (exact (whole units) stands).1 (typable_of (record { targets = targets; units = units }) typed))) c.fits.ensures.exact
