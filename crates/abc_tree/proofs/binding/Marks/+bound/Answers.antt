use Rattle.std.proofs.Common.{◌∙◌}
use Rattle.abc_tree.specs.RegularItems.{bound_names}
use Rattle.abc_tree.proofs.BoundNames.{next_marked}
use Rattle.abc_tree.proofs.binding.Marks.+bound.Goals as goal

pub bounds-loop-bound-preserved : goal.bounds-loop-bound-preserved
bounds-loop-bound-preserved n c =
    c.loop-bound.invariant ∙ next_marked bound_names c.args.bounds.now c.loop-bound.bound-index c.bound-item.result c.loop-bound.self c.bound.new.self c.loop-bound-test.true c.bound-item.is c.bound.ensures
