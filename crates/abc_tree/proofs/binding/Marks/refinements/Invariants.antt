use Rattle.std.proofs.Common.{◌≡◌, map, drop}
use Rattle.abc_tree.specs.Lists.{flat}
use Rattle.abc_tree.specs.inner.Bindings.{bound_in_refinement, marked}
use Rattle.abc_tree.proofs.binding.Marks.refinements.Given as goal

abbrev pub invariant-loop-refinement : goal.invariant-loop-refinement
invariant-loop-refinement l = marked l.initial.self (flat (map bound_in_refinement l.refinements)) ≡ marked l.self (flat (map bound_in_refinement (drop l.refinement-index l.refinements)))
