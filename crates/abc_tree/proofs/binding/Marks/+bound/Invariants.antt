use Rattle.std.proofs.Common.{◌≡◌, map, drop}
use Rattle.abc_tree.specs.Lists.{flat}
use Rattle.abc_tree.specs.RegularItems.{bound_names}
use Rattle.abc_tree.specs.inner.Bindings.{marked}
use Rattle.abc_tree.proofs.binding.Marks.+bound.Given as goal

abbrev pub invariant-bounds-loop-bound : goal.invariant-bounds-loop-bound
invariant-bounds-loop-bound l = marked l.initial.self (flat (map bound_names l.bounds)) ≡ marked l.self (flat (map bound_names (drop l.bound-index l.bounds)))
