use Rattle.std.proofs.Common.{◌≡◌, ℕ, ◌≤◌, length}
use Rattle.std.specs.List.{All}
use Rattle.abc_unify.proofs.marks.fill.Given as goal

abbrev pub invariant-loop : goal.invariant-loop
invariant-loop l = record {
  count : length l.stamps.items ≡ l.counter;
  below : (last : ℕ) → All (λ s. s ≤ last) l.fn.stamps.items → All (λ s. s ≤ last) l.stamps.items;
}
