-- What is reached by calls, where `called` says what each one calls.
use Rattle.std.specs.Prelude.{◌≡◌, ℕ, zero, suc, List}
use Rattle.std.specs.List.{Contains}

module _ {X : Type 0} (called : X → List X) where
  -- the first calls the second
  abbrev pub DoesCall : X → X → Type 0
  DoesCall a b = Contains (called a) b

  -- a way of so many calls leads from the first to the second
  abbrev pub Way : ℕ → X → X → Type 0
  Way zero a b = a ≡ b
  Way (suc n) a b = (c : X) × DoesCall a c × Way n c b

  -- the second is the first, or is reached from it
  abbrev pub Leads : X → X → Type 0
  Leads a b = (n : ℕ) × Way n a b

  -- one call or more leads to the second
  abbrev pub Reaches : X → X → Type 0
  Reaches a b = (c : X) × DoesCall a c × Leads c b

  -- it is one of these, or is reached from one of them
  abbrev pub IsFrom : List X → X → Type 0
  IsFrom seeds b = (a : X) × Contains seeds a × Leads a b

  -- each reaches the other, or they are one
  abbrev pub AreTogether : X → X → Type 0
  AreTogether a b = Leads a b × Leads b a
