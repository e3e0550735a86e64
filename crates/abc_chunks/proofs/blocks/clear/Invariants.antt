use Rattle.std.proofs.Common.{◌≡◌, ◌++◌, ℕ, map, take, drop}
use Rattle.abc_chunks.proofs.blocks.clear.Given as goal

abbrev pub invariant-loop-i : goal.invariant-loop-i
invariant-loop-i l = l.notes ≡ take l.i (map {B = ℕ} (λ n. 0) l.initial.notes) ++ drop l.i l.initial.notes
