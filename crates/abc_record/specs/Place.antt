-- Where bytes that spell no changes are wrong.
use Rattle.std.specs.Prelude.{◌≡◌, ℕ, ◌+◌, ◌<◌, ◌≤◌, ◌⊎◌, List, ◌++◌, length, take, drop}
use Rattle.std.specs.Int.{w32, from_be_bytes}
use Rattle.std.specs.List.{AllByRecursion}
use Rattle.abc_record.specs.declared.change.Change.{Change}
use Rattle.abc_record.specs.Spelling.{spelled_changes}
use Rattle.abc_record.specs.Kept.{IsKept}

-- the number in the four bytes at the front
unfoldable pub four_at : List ℕ → ℕ
four_at bytes = from_be_bytes w32 (take 4 bytes)

-- the bytes begin with the spellings of these changes, of which there are at most so many
pub record AreLeading (count : ℕ) (bytes : List ℕ) (changes : List Change) : Type 0 where
  pub kept : AllByRecursion IsKept changes
  pub few : length changes ≤ count
  pub front : (rest : List ℕ) × (bytes ≡ spelled_changes changes ++ rest)

-- the most changes that the bytes begin with
pub record AreAllLeading (count : ℕ) (bytes : List ℕ) (changes : List Change) : Type 0 where
  pub leading : AreLeading count bytes changes
  pub most : (others : List Change) → AreLeading count bytes others → length others ≤ length changes

-- the place behind the count and the leading changes
abbrev pub IsBehindLeading : List ℕ → ℕ → Type 0
IsBehindLeading bytes at = (changes : List Change) × AreAllLeading (four_at bytes) (drop 4 bytes) changes × (at ≡ 4 + length (spelled_changes changes))

-- at is the place where bytes go wrong: 0 where there is no count
abbrev pub IsWrongAt : List ℕ → ℕ → Type 0
IsWrongAt bytes at = ((length bytes < 4) × (at ≡ 0)) ⊎ ((4 ≤ length bytes) × IsBehindLeading bytes at)
