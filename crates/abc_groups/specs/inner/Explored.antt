-- What has been found so far from some templates, and of how many of these the calls are known.
use Rattle.std.specs.Prelude.{◌≡◌, ◌<◌, ◌≤◌, ℕ, Bool, false, List, [], length, map, is_some, slice_index_or}
use Rattle.std.specs.List.{All, Contains}
use Rattle.abc_groups.specs.Reach.{IsFrom}
use Rattle.abc_groups.specs.Program.{Program, called}
use Rattle.abc_groups.specs.inner.Found.{name_of}

abbrev pub row_of : List (List ℕ) → ℕ → List ℕ
row_of rows i = slice_index_or rows i []

pub record IsExplored (program : Program) (seeds names : List (List ℕ)) (rows : List (List ℕ)) (there : List Bool) : Type 0 where
  pub seeded : All (Contains names) seeds
  pub from : All (IsFrom (called program) seeds) names
  pub rows_in : length rows ≤ length names
  pub as_many : length there ≡ length rows
  pub inside : (i : ℕ) → i < length rows → All (λ k. k < length names) (row_of rows i)
  pub named : (i : ℕ) → i < length rows → map (name_of names) (row_of rows i) ≡ called program (name_of names i)
  pub is_there : (i : ℕ) → i < length rows → slice_index_or there i false ≡ is_some (program (name_of names i))
