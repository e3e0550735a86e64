-- What the chunks of a sequence hold.
use Rattle.std.specs.Prelude.{◌≡◌, ◌≤◌, ◌+◌, ℕ, List, [], ◌∷◌, map, length, Option, None, Some, Vec}
use Rattle.std.specs.List.{flat_map}
use Rattle.std.specs.declared.rc.Rc.{Rc}
use Rattle.std.specs.declared.alloc.Global.{Global}
use Rattle.abc_chunks.specs.declared.tower.TheConstants.{MOST_IN_CHUNK}
use Rattle.abc_chunks.specs.declared.tower.Tower.{Tower}

abbrev pub Chunk : Type 0 → Type 0
Chunk T = Rc (Vec T Global) Global

-- the elements of a chunk
abbrev pub chunk_items : {T : Type 0} → Chunk T → List T
chunk_items c = c.value.items

-- the chunks, each as the list of its elements
abbrev pub pieces : {T : Type 0} → Tower T → List (List T)
pieces t = map chunk_items t.chunks.items

-- all elements in order
abbrev pub joined : {T : Type 0} → List (List T) → List T
joined xss = flat_map (λ xs. xs) xss

-- the elements of a sequence, which has no chunks where it is empty
abbrev pub items_of : {T : Type 0} → Option (Rc (Tower T) Global) → List T
items_of None = []
items_of (Some t) = joined (pieces t.value)

-- how many elements each chunk has
abbrev pub sizes : {T : Type 0} → List (List T) → List ℕ
sizes xss = map length xss

-- how many stand in front of each chunk, and last how many there are, where n stand in front of all
abbrev pub totals_from : ℕ → List ℕ → List ℕ
totals_from n [] = n ∷ []
totals_from n (k ∷ ks) = n ∷ totals_from (n + k) ks

-- each chunk has from 1 to 64 elements
abbrev pub AreSizes : List ℕ → Type 0
AreSizes [] = Unit {0}
AreSizes (k ∷ ks) = ((1 ≤ k) × (k ≤ MOST_IN_CHUNK)) × AreSizes ks

-- the totals are those of the chunks
abbrev pub HasTotals : {T : Type 0} → Tower T → Type 0
HasTotals t = t.totals ≡ totals_from 0 (sizes (pieces t))

-- the totals are those of the chunks, and each chunk is neither empty nor too long
abbrev pub IsSoundTower : {T : Type 0} → Tower T → Type 0
IsSoundTower t = HasTotals t × AreSizes (sizes (pieces t))

abbrev pub IsSound : {T : Type 0} → Option (Rc (Tower T) Global) → Type 0
IsSound None = Unit {0}
IsSound (Some t) = IsSoundTower t.value

-- a clone is the value
abbrev pub ClonesAreEqual : {T : Type 0} → (T → T → Type 0) → Type 0
ClonesAreEqual {T} is_clone = (x y : T) → is_clone x y → y ≡ x
