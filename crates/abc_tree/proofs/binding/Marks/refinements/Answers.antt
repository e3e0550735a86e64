use Rattle.std.proofs.Common.{◌≡◌, ◌∙◌, map, ap}
use Rattle.abc_tree.specs.Lists.{flat}
use Rattle.abc_tree.specs.inner.Bindings.{bound_in_action, bound_in_refinement, marked}
use Rattle.abc_tree.proofs.BoundNames.{next_marked}
use Rattle.abc_tree.proofs.binding.Marks.refinements.Goals as goal

pub loop-refinement-preserved : goal.loop-refinement-preserved
loop-refinement-preserved c =
    let added : c.suite.new.self ≡ marked c.loop-refinement.self (bound_in_refinement c.refinement-item.result) =
    c.suite.ensures ∙ ap (λ suite. marked c.loop-refinement.self (flat (map bound_in_action suite))) c.as_slice.ensures in
    c.loop-refinement.invariant ∙ next_marked bound_in_refinement c.args.refinements.now c.loop-refinement.refinement-index c.refinement-item.result c.loop-refinement.self c.suite.new.self c.loop-refinement-test.true c.refinement-item.is added
