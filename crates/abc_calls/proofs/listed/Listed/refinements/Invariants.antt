use Rattle.std.proofs.Common.{◌≡◌, map, drop}
use Rattle.abc_calls.specs.inner.Nodes.{nodes_in_refinement, with_nodes}
use Rattle.abc_tree.specs.Lined.{upto}
use Rattle.abc_tree.specs.Lists.{flat}
use Rattle.abc_calls.proofs.listed.Listed.refinements.Given as goal

abbrev pub invariant-loop-refinement : goal.invariant-loop-refinement
invariant-loop-refinement l =
    with_nodes l.initial.self (upto l.n (flat (map nodes_in_refinement l.refinements))) ≡ with_nodes l.self (upto l.n (flat (map nodes_in_refinement (drop l.refinement-index l.refinements))))
