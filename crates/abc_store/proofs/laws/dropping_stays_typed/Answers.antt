use Rattle.abc_store.specs.Workspace.{without_named}
use Rattle.abc_store.proofs.Typed.{typable_of, typed_from, without_within}
use Rattle.abc_store.proofs.laws.dropping_stays_typed.Goals as goal

pub returns : goal.returns
returns c kept template in_order typed =
    let left = without_named template kept.units in
    typed_from kept.targets left (c.kept_units_stay_typable.ensures.typable kept.targets left kept.units in_order (without_within template kept.units) (typable_of kept typed))
