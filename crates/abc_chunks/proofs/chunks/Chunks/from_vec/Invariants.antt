use Rattle.std.proofs.Common.{◌≡◌, ◌++◌}
use Rattle.abc_chunks.proofs.chunks.Chunks.from_vec.Given as goal

abbrev pub invariant-loop-x : goal.invariant-loop-x
invariant-loop-x g l =
    (goal.iterator-loop-x g).can_next l.x-iterator ×
    (goal.iterator-loop-x g).is_finite l.x-iterator ×
    (l.all ++ l.x-iterator.rest.items ≡ l.fn.items.items)
