-- The least name so far whose unit is not there.
use Rattle.std.specs.Prelude.{◌≡◌, ◌≢◌, ◌<◌, ℕ, Bool, true, false, List, Option, MatchOption, slice_index_or}
use Rattle.std.specs.declared.cmp.Ordering.TheVariants.{Greater}
use Rattle.abc_num.specs.Text.{text_cmp}
use Rattle.abc_groups.specs.inner.Found.{name_of}

abbrev pub IsHere : List Bool → ℕ → Type 0
IsHere there k = slice_index_or there k false ≡ true

abbrev pub IsAway : List Bool → ℕ → Type 0
IsAway there k = slice_index_or there k false ≡ false

abbrev pub IsLeastAt : List (List ℕ) → List Bool → ℕ → ℕ → Type 0
IsLeastAt names there n b = (b < n) × IsAway there b × ((k : ℕ) → k < n → IsAway there k → text_cmp (name_of names b) (name_of names k) ≢ Greater)

-- of those below n
abbrev pub IsLeast : List (List ℕ) → List Bool → ℕ → Option ℕ → Type 0
IsLeast names there n best = MatchOption best ((k : ℕ) → k < n → IsHere there k) (IsLeastAt names there n)
