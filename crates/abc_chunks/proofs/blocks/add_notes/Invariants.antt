use Rattle.std.proofs.Common.{◌≡◌, ◌++◌, take, drop}
use Rattle.abc_chunks.specs.inner.Notes.{noted}
use Rattle.abc_chunks.proofs.blocks.add_notes.Given as goal

abbrev pub invariant-loop-i : goal.invariant-loop-i
invariant-loop-i l = l.counts ≡ take l.i (noted l.notes l.initial.counts) ++ drop l.i l.initial.counts
