use Rattle.std.proofs.Common.{◌≡◌, ◌++◌, map, take}
use Rattle.abc_store.specs.Workspace.{set_unit}
use Rattle.abc_store.proofs.whole.add_units.Given as goal

abbrev pub invariant-loop-at : goal.invariant-loop-at
invariant-loop-at l = l.all.items ≡ l.fn.all.items ++ map set_unit (take l.at l.units)
