-- A search by halves keeps the totals around the place.
use Rattle.std.proofs.Common.{ℕ, ◌<◌, ◌≤◌, List, length, get_or}

-- the place is one of those that the totals at `low` and at `high` stand around
pub record IsBetween (totals : List ℕ) (place low high : ℕ) : Type 0 where
  pub below : low < high
  pub within : high < length totals
  pub first : get_or totals low 0 ≤ place
  pub last : place < get_or totals high 0
