use Rattle.std.proofs.Common.{◌≡◌, map, drop}
use Rattle.abc_tree.specs.Calls.{calls_in_refinement, with_calls}
use Rattle.abc_tree.specs.Lined.{upto}
use Rattle.abc_tree.specs.Lists.{flat}
use Rattle.abc_tree.proofs.called.Called.refinements.Given as goal

abbrev pub invariant-loop-refinement : goal.invariant-loop-refinement
invariant-loop-refinement l =
    with_calls l.initial.self (upto l.n (flat (map calls_in_refinement l.refinements))) ≡ with_calls l.self (upto l.n (flat (map calls_in_refinement (drop l.refinement-index l.refinements))))
