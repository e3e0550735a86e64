use Rattle.std.proofs.Common.{◌∙◌, length, replicate, false, ap}
use Rattle.abc_tree.specs.RegularItems.{bounds_of, parts_of}
use Rattle.abc_tree.specs.inner.Bindings.{marked}
use Rattle.abc_tree.proofs.BoundNames.{are_flags}
use Rattle.abc_tree.proofs.commands.Command.bound_names.Goals as goal

pub returns : goal.returns
returns c =
    let command = c.args.self.now in
    let all = bounds_of (parts_of command.action) in
    let count = c.in_ok-marks.ensures ∙ ap (λ k. replicate k false) c.len.ensures.count in
    are_flags (length command.names) all c.into_vec.result.items (c.into_vec.ensures ∙ c.action.ensures ∙ ap (λ flags. marked flags all) count)
