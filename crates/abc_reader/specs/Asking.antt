-- What was asked of the input.
use Rattle.std.specs.Prelude.{◌≡◌, ◌≤◌, ℕ, suc, Bool, true, false, List, [], ◌∷◌, ◌++◌}
use Rattle.std.specs.List.{AllByRecursion}

-- further pairs were added, and each has P
pub record Asked (P : ℕ × ℕ → Type 0) (old new : List (ℕ × ℕ)) : Type 0 where
  pub extra : List (ℕ × ℕ)
  pub is : new ≡ old ++ extra
  pub each : AllByRecursion P extra

-- asked where so many bytes were taken, and so many said
abbrev pub AsksNow : ℕ → ℕ → ℕ × ℕ → Type 0
AsksNow taken spoken ask = (ask.0 ≡ taken) × (ask.1 ≡ spoken)

-- Each was asked with more bytes taken than the one before it, so the end of the input, where a read takes nothing, was asked for at most once.
-- Each count is at least `first` and less than `below`.
abbrev pub Rises : ℕ → ℕ → List (ℕ × ℕ) → Type 0
Rises first below [] = first ≤ below
Rises first below (ask ∷ asks) = (first ≤ ask.0) × Rises (suc ask.0) below asks

-- further pairs were added, which rise
pub record AskedRising (first below : ℕ) (old new : List (ℕ × ℕ)) : Type 0 where
  pub extra : List (ℕ × ℕ)
  pub is : new ≡ old ++ extra
  pub rises : Rises first below extra

-- the least count at which there may be a next read: where the input has ended, past all that was taken
abbrev pub next_ask : ℕ → Bool → ℕ
next_ask taken true = suc taken
next_ask taken false = taken
