-- Templates by the number that each has got, from 0 on.
use Rattle.std.specs.Prelude.{◌≡◌, ◌<◌, ℕ, List, [], ◌++◌, length, map, slice_index_or}
use Rattle.std.specs.List.{All, Contains}

abbrev pub name_of : List (List ℕ) → ℕ → List ℕ
name_of names i = slice_index_or names i []

-- the names after these texts have got their numbers, which stand in the row
pub record IsNumbered (before : List (List ℕ)) (texts : List (List ℕ)) (row : List ℕ) (after : List (List ℕ)) : Type 0 where
  pub more : List (List ℕ)
  pub grown : after ≡ before ++ more
  pub new : All (Contains texts) more
  pub inside : All (λ i. i < length after) row
  pub named : map (name_of after) row ≡ texts
