-- Groups of numbers, and the names of their members.
use Rattle.std.specs.Prelude.{◌≡◌, ◌<◌, ◌↔◌, ℕ, List, length, map}
use Rattle.std.specs.List.{Contains}
use Rattle.abc_groups.specs.Groups.{group_at}
use Rattle.abc_groups.specs.inner.Explored.{row_of}
use Rattle.abc_groups.specs.inner.Found.{name_of}

pub record AreNamed (names : List (List ℕ)) (numbers : List (List ℕ)) (groups : List (List (List ℕ))) : Type 0 where
  pub as_many : length groups ≡ length numbers
  pub members : (g : ℕ) (x : List ℕ) → g < length groups → (Contains (group_at groups g) x ↔ Contains (map (name_of names) (row_of numbers g)) x)
