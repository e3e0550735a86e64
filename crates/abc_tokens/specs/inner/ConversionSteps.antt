-- What the inner functions do with a conversion: steps over what stands first in its rest.
use Rattle.std.specs.Prelude.{◌≡◌, ℕ, ◌<◌, ◌≤◌, Bool, List, ◌∷◌, ◌++◌, length, drop, Option, Some, None}
use Rattle.abc_tokens.specs.declared.converting.Front.{Front}
use Rattle.abc_tokens.specs.declared.converting.Front.TheVariants.{End, Over}
use Rattle.abc_tokens.specs.Bytes.{backquote}
use Rattle.abc_tokens.specs.Texts.{Converts}
use Rattle.abc_tokens.specs.inner.Steps.{Judges}

-- a conversion goes on behind the first n bytes, which have these numbers
pub record Passes (bytes : List ℕ) (n : ℕ) (ms : List (List ℕ)) : Type 0 where
  pub within : n ≤ length bytes
  pub forth : (rest : List ℕ) (ns : List (List ℕ)) → Converts (drop n bytes) rest ns → Converts bytes rest (ms ++ ns)
  pub back : (rest : List ℕ) (ns : List (List ℕ)) → Converts bytes rest ns → (us : List (List ℕ)) × (ns ≡ ms ++ us) × Converts (drop n bytes) rest us

-- the same, and whether each of the numbers has a value
abbrev pub HasPassed : List ℕ → ℕ → Bool → Type 0
HasPassed bytes n sound = (ms : List (List ℕ)) × Judges sound ms × Passes bytes n ms

-- no conversion ends in these bytes
abbrev pub IsEndless : List ℕ → Type 0
IsEndless bytes = (rest : List ℕ) (ns : List (List ℕ)) → Converts bytes rest ns → ⊥

abbrev pub IsFront : List ℕ → Option Front → Type 0
IsFront bytes None = IsEndless bytes
IsFront bytes (Some End) = (more : List ℕ) × (bytes ≡ backquote ∷ more)
IsFront bytes (Some (Over n sound)) = (0 < n) × HasPassed bytes n sound
