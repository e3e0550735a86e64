use Rattle.std.proofs.Common.{◌≡◌, ◌++◌, map, Some}
use Rattle.std.specs.Vec.Iter.{into_iter_items}
use Rattle.abc_state.proofs.spots.together.Given as goal

abbrev pub invariant-loop-spot : goal.invariant-loop-spot
invariant-loop-spot l = l.fn.spots.items ≡ map (λ a. Some a) l.all.items ++ into_iter_items l.spot-iterator
