-- Names that are bound, command by command, and flags that are set for them.
use Rattle.std.specs.Prelude.{ℕ, Bool, true, List, [], ◌∷◌, map, Option, Some, None, slice_set}
use Rattle.abc_tree.specs.Lists.{flat}
use Rattle.abc_tree.specs.RegularItems.{Parts, Way, node_parts, action_parts, way_of, parts_of, bounds_of, bounds_in_test}
use Rattle.abc_tree.specs.declared.formulas.Test.{Test}
use Rattle.abc_tree.specs.declared.commands.Action.{Action}
use Rattle.abc_tree.specs.declared.commands.ActionNode.{ActionNode, fold-ActionNode}
use Rattle.abc_tree.specs.declared.commands.Alternative.{Alternative, fold-Alternative}
use Rattle.abc_tree.specs.declared.commands.Refinement.{Refinement}

-- flags, of which those with these numbers are set
abbrev pub marked : List Bool → List ℕ → List Bool
marked flags [] = flags
marked flags (n ∷ ns) = marked (slice_set flags n true) ns

abbrev pub parts_in_node : ActionNode → Parts
parts_in_node = fold-ActionNode Parts Parts Way node_parts action_parts way_of

abbrev pub way_in : Alternative → Way
way_in = fold-Alternative Parts Parts Way node_parts action_parts way_of

abbrev pub bound_in_node : ActionNode → List ℕ
bound_in_node node = bounds_of (parts_in_node node)

abbrev pub bound_in_action : Action → List ℕ
bound_in_action action = bounds_of (parts_of action)

abbrev pub bound_in_alternative : Alternative → List ℕ
bound_in_alternative alternative = bounds_of ((way_in alternative).parts)

abbrev pub bound_in_refinement : Refinement → List ℕ
bound_in_refinement refinement = flat (map bound_in_action refinement.suite)

abbrev pub bound_if_any : Option Test → List ℕ
bound_if_any None = []
bound_if_any (Some t) = bounds_in_test t
