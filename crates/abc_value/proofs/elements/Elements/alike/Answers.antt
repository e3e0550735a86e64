use Rattle.std.proofs.Common.{sym}
use Rattle.abc_value.proofs.lists.Alike.{alike_forms}
use Rattle.abc_value.proofs.elements.Elements.alike.Goals as goal

pub invariant_of-result : goal.invariant_of-result
invariant_of-result c =
    let xs = c.args.items in
    c.in_ok-common.ensures xs (sym c.len.ensures) (alike_forms xs c.index.result.now c.requires.alike c.index.ensures)
