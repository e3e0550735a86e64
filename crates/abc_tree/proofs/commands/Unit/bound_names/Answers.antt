use Rattle.std.proofs.Common.{◌∙◌, ◌++◌, length, map, replicate, false, sym, ap}
use Rattle.abc_tree.specs.Lists.{flat}
use Rattle.abc_tree.specs.RegularItems.{bounds_of, parts_of_unit}
use Rattle.abc_tree.specs.inner.Bindings.{bound_in_action, bound_in_refinement, marked}
use Rattle.abc_tree.proofs.BoundNames.{are_flags, bound_unit, two_marked}
use Rattle.abc_tree.proofs.commands.Unit.bound_names.Goals as goal

pub returns : goal.returns
returns c =
    let unit = c.args.self.now in
    let body = flat (map bound_in_action c.as_slice.result.now) in
    let more = flat (map bound_in_refinement c.as_slice-2.result.now) in
    let all = bounds_of (parts_of_unit unit) in
    let parts = bound_unit unit ∙ ap (λ suite. flat (map bound_in_action suite) ++ flat (map bound_in_refinement unit.refinements)) (sym c.as_slice.ensures) ∙ ap (λ rs. body ++ flat (map bound_in_refinement rs)) (sym c.as_slice-2.ensures) in
    let count = c.in_ok-marks.ensures ∙ ap (λ k. replicate k false) c.len.ensures.count in
    are_flags (length unit.names) all c.into_vec.result.items
    (c.into_vec.ensures ∙ two_marked c.in_ok-marks.marks c.suite.new.self c.refinements.new.self body more all parts c.suite.ensures c.refinements.ensures ∙ ap (λ flags. marked flags all) count)
