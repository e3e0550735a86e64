use Rattle.std.proofs.Common.{◌≡◌, ◌++◌, map, take, drop}
use Rattle.abc_chunks.specs.inner.Notes.{plus}
use Rattle.abc_chunks.proofs.blocks.add_to_all.Given as goal

abbrev pub invariant-loop-i : goal.invariant-loop-i
invariant-loop-i l = l.counts ≡ map (plus l.by) (take l.i l.initial.counts) ++ drop l.i l.initial.counts
