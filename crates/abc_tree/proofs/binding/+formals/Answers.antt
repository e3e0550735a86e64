use Rattle.std.proofs.Common.{◌∙◌}
use Rattle.abc_tree.specs.RegularItems.{bound_names, numbers}
use Rattle.abc_tree.proofs.BoundNames.{next_formal}
use Rattle.abc_tree.proofs.binding.+formals.Goals as goal

pub add_bounds-loop-bound-preserved : goal.add_bounds-loop-bound-preserved
add_bounds-loop-bound-preserved n c =
    c.loop-bound.invariant ∙ next_formal bound_names c.args.bounds.now c.loop-bound.bound-index c.bound-item.result (numbers c.loop-bound.ids.items) (numbers c.add_bound.new.ids.items) c.loop-bound-test.true c.bound-item.is c.in_ok-add_bound.ensures
