-- The stop model in plain words: which places may hold any byte since the last sync, and which sizes there may be.
use Rattle.std.specs.Prelude.{◌≡◌, ◌⊎◌, ◌≤◌, ◌<◌, ℕ, ◌+◌, max, min, Bool, IsTrue, List, length, get_or}
use Rattle.abc_outside.specs.Stop.{Torn, Shortened}

-- A stop may leave this image: its size is between the least and the greatest since the sync, and each place holds the byte
-- of the image as it was read at the sync, or is loose and holds any.
pub record MayBe (base : List ℕ) (loose : ℕ → Type 0) (least most : ℕ) (c : List ℕ) : Type 0 where
  pub no_shorter : least ≤ length c
  pub no_longer : length c ≤ most
  pub same : (i : ℕ) → i < length c → loose i ⊎ (get_or c i 0 ≡ get_or base i 0)

-- the places that are loose after a write of n bytes
abbrev pub Written : (ℕ → Type 0) → ℕ → ℕ → ℕ → Type 0
Written loose at n i = loose i ⊎ ((at ≤ i) × (i < at + n))

-- the places that are loose after a cut to n bytes
abbrev pub Past : (ℕ → Type 0) → ℕ → ℕ → Type 0
Past loose n i = loose i ⊎ (n ≤ i)

-- each image after a write is an image before it, torn
abbrev pub WriteTears : Type 0
WriteTears = (base : List ℕ) (loose : ℕ → Bool) (least most at n : ℕ) (c : List ℕ) → at ≤ most → least ≤ most → MayBe base (Written (λ i. IsTrue (loose i)) at n) least (max most (at + n)) c
    → (d : List ℕ) × MayBe base (λ i. IsTrue (loose i)) least most d × Torn at n d c

-- and each image before it, torn, is one after it
abbrev pub TornIsWritten : Type 0
TornIsWritten = (base : List ℕ) (loose : ℕ → Bool) (least most at n : ℕ) (c d : List ℕ) → MayBe base (λ i. IsTrue (loose i)) least most d → Torn at n d c
    → MayBe base (Written (λ i. IsTrue (loose i)) at n) least (max most (at + n)) c

-- each image after a cut is an image before it, shortened
abbrev pub CutShortens : Type 0
CutShortens = (base : List ℕ) (loose : ℕ → Bool) (least most n : ℕ) (c : List ℕ) → least ≤ most → MayBe base (Past (λ i. IsTrue (loose i)) n) (min least n) most c
    → (d : List ℕ) × MayBe base (λ i. IsTrue (loose i)) least most d × Shortened n d c

-- and each image before it, shortened, is one after it
abbrev pub ShortenedIsCut : Type 0
ShortenedIsCut = (base : List ℕ) (loose : ℕ → Bool) (least most n : ℕ) (c d : List ℕ) → MayBe base (λ i. IsTrue (loose i)) least most d → Shortened n d c
    → MayBe base (Past (λ i. IsTrue (loose i)) n) (min least n) most c

-- after a sync no place is loose and the size is that of the image: a stop leaves it as it reads
abbrev pub SyncedIsExact : Type 0
SyncedIsExact = (base c : List ℕ) → MayBe base (λ i. ⊥) (length base) (length base) c → c ≡ base
