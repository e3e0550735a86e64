use Rattle.std.proofs.Common.{ℕ, ◌<◌, ◌≤◌, get_or}
use Rattle.abc_unify.specs.inner.Slots.{root_of}
use Rattle.abc_unify.proofs.cycle.first_not_done.Given as goal

abbrev pub invariant-loop-i : goal.invariant-loop-i
invariant-loop-i l = (j : ℕ) → j < l.i → 2 ≤ get_or l.marks (root_of l.slots (get_or l.xs j (record { 0 = 0 })).0) 0
