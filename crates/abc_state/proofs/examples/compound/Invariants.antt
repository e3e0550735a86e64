use Rattle.std.proofs.Common.{◌≡◌, ◌++◌, map, Some}
use Rattle.std.specs.Vec.Iter.{into_iter_items}
use Rattle.abc_state.proofs.examples.compound.Given as goal

abbrev pub invariant-loop-shape : goal.invariant-loop-shape
invariant-loop-shape l = l.fn.shapes.items ≡ map (λ f. Some f) l.fields.items ++ into_iter_items l.shape-iterator
