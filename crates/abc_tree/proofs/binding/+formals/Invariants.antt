use Rattle.std.proofs.Common.{◌≡◌, ◌++◌, map, drop}
use Rattle.abc_tree.specs.Lists.{flat}
use Rattle.abc_tree.specs.RegularItems.{bound_names, numbers}
use Rattle.abc_tree.proofs.binding.+formals.Given as goal

abbrev pub invariant-add_bounds-loop-bound : goal.invariant-add_bounds-loop-bound
invariant-add_bounds-loop-bound l =
    numbers l.initial.ids.items ++ flat (map bound_names l.bounds) ≡ numbers l.ids.items ++ flat (map bound_names (drop l.bound-index l.bounds))
