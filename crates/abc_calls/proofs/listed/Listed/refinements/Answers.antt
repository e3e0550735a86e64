use Rattle.std.proofs.Common.{◌≡◌, ◌∙◌, map, ap}
use Rattle.abc_tree.specs.Lists.{flat}
use Rattle.abc_calls.specs.inner.Nodes.{nodes_in_action, nodes_in_refinement, with_nodes}
use Rattle.abc_tree.specs.Lined.{upto}
use Rattle.abc_calls.proofs.Listing.{next_upto}
use Rattle.abc_calls.proofs.listed.Listed.refinements.Goals as goal

pub loop-refinement-preserved : goal.loop-refinement-preserved
loop-refinement-preserved c =
    let added : c.suite.new.self ≡ with_nodes c.loop-refinement.self (upto c.args.n (nodes_in_refinement c.refinement-item.result)) =
    c.in_ok-suite.ensures ∙ ap (λ suite. with_nodes c.loop-refinement.self (upto c.args.n (flat (map nodes_in_action suite)))) c.as_slice.ensures in
    c.loop-refinement.invariant
    ∙ next_upto nodes_in_refinement c.args.n c.args.refinements.now c.loop-refinement.refinement-index c.refinement-item.result c.loop-refinement.self c.suite.new.self c.loop-refinement-test.true c.refinement-item.is added
