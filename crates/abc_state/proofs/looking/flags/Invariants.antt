use Rattle.std.proofs.Common.{◌≡◌, drop, replicate, false}
use Rattle.abc_tree.specs.RegularItems.{numbers}
use Rattle.abc_tree.specs.inner.Bindings.{marked}
use Rattle.abc_state.proofs.looking.flags.Given as goal

abbrev pub invariant-loop-id : goal.invariant-loop-id
invariant-loop-id l = marked (replicate l.count false) (numbers l.ids) ≡ marked l.flags.items (numbers (drop l.id-index l.ids))
