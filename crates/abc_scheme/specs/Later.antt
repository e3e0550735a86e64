-- Graphs to which something was added.
use Rattle.std.specs.Prelude.{◌≡◌, ℕ, ◌≤◌, length}
use Rattle.abc_unify.specs.Graphs.{Seen, back_at}

-- a graph can go back from the second to where it could go back from the first
abbrev pub IsLater : Seen → Seen → Type 0
IsLater s t = (m : ℕ) → m ≤ length s.past → (m ≤ length t.past) × (back_at t m ≡ back_at s m)
