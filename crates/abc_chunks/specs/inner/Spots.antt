-- Places in chunks, and what becomes of the chunks.
use Rattle.std.specs.Prelude.{◌≡◌, ◌<◌, ◌≤◌, ◌+◌, ◌-◌, ℕ, suc, Bool, true, false, List, [], ◌∷◌, ◌++◌, length, map, take, drop, slice_index_or}
use Rattle.std.specs.List.{AllWithin, remove}
use Rattle.abc_chunks.specs.Towers.{joined}

-- the elements of the chunk k
abbrev pub piece_at : {T : Type 0} → List (List T) → ℕ → List T
piece_at xss k = slice_index_or xss k []

-- the place is one of those that are counted
pub record AreAround (totals : List ℕ) (place : ℕ) : Type 0 where
  pub many : 2 ≤ length totals
  pub first : slice_index_or totals 0 0 ≤ place
  pub last : place < slice_index_or totals (length totals - 1) 0

-- the place is one of the chunk k
pub record IsChunkAt (totals : List ℕ) (place k : ℕ) : Type 0 where
  pub within : k + 1 < length totals
  pub first : slice_index_or totals k 0 ≤ place
  pub last : place < slice_index_or totals (k + 1) 0

-- at the place `at` of the chunk k so many elements stand in front
pub record IsSpot {T : Type 0} (xss : List (List T)) (place k at : ℕ) : Type 0 where
  pub chunk : k < length xss
  pub within : at ≤ length (piece_at xss k)
  pub front : length (joined (take k xss)) + at ≡ place

-- one more from the place j on, and one less
abbrev pub raised : ℕ → List ℕ → List ℕ
raised j ts = take j ts ++ map (λ n. n + 1) (drop j ts)

abbrev pub lowered : ℕ → List ℕ → List ℕ
lowered j ts = take j ts ++ map (λ n. n - 1) (drop j ts)

-- the chunk k is cut into two
abbrev pub parted : {T : Type 0} → List (List T) → ℕ → ℕ → List (List T)
parted xss k cut = take k xss ++ take cut (piece_at xss k) ∷ drop cut (piece_at xss k) ∷ drop (suc k) xss

abbrev pub if_empty : {T : Type 0} → List T → List (List T) → List (List T) → List (List T)
if_empty [] yss xss = yss
if_empty (x ∷ xs) yss xss = xss

-- the chunk k is taken away if it is empty
abbrev pub without_empty : {T : Type 0} → List (List T) → ℕ → List (List T)
without_empty xss k = if_empty (piece_at xss k) (remove xss k) xss

-- how many elements stand in front of the chunk k
abbrev pub in_front : {T : Type 0} → List (List T) → ℕ → ℕ
in_front xss k = length (joined (take k xss))

-- a place up to which the elements pass stands in the chunk k or at an end of it
pub record IsChunkOf {T : Type 0} (p : T → Bool) (xss : List (List T)) (k : ℕ) : Type 0 where
  pub within : k < length xss
  pub before : AllWithin (λ x. p x ≡ true) (joined xss) 0 (in_front xss k)
  pub behind : AllWithin (λ x. p x ≡ false) (joined xss) (in_front xss (suc k)) (length (joined xss))
