-- Variables for the names of an item.
use Rattle.std.specs.Prelude.{◌≡◌, ℕ, suc, ◌<◌, ◌≤◌, Bool, true, false, List, [], ◌∷◌, ◌++◌, Option, None, Some, slice_get}
use Rattle.abc_num.specs.declared.types.Ground.{Ground}
use Rattle.abc_terms.specs.declared.term.VarId.{VarId}
use Rattle.abc_demand.specs.Typings.{types_of, Agree, AreMade, TargetsMade}
use Rattle.abc_demand.specs.Demanded.{AreGiven}
use Rattle.abc_demand.specs.inner.Drafts.{Drafted}

-- the target that the name of this number is, where it is one
abbrev pub role : List (List ℕ) → ℕ → Bool → Option (List ℕ)
role names i true = slice_get names i
role names i false = None

-- of the names from the i-th on, by their flags
abbrev pub roles : List (List ℕ) → ℕ → List Bool → List (Option (List ℕ))
roles names i [] = []
roles names i (f ∷ fs) = role names i f ∷ roles names (suc i) fs

-- a target has its type, another name any
abbrev pub RoleFits : (List ℕ → Ground) → Option (List ℕ) → Ground → Type 0
RoleFits targets None t = Unit {0}
RoleFits targets (Some name) t = t ≡ targets name

abbrev pub RolesFit : (List ℕ → Ground) → List (Option (List ℕ)) → List Ground → Type 0
RolesFit targets [] [] = Unit {0}
RolesFit targets (r ∷ rs) (t ∷ ts) = RoleFits targets r t × RolesFit targets rs ts
RolesFit targets _ _ = ⊥

-- Names of these roles have these variables, of which nothing else is asked; targets that had none have got one.
pub record Named (old new : Drafted) (before after : List (List ℕ × VarId)) (rs : List (Option (List ℕ))) (vars : List VarId) : Type 0 where
  pub first : new.first ≡ old.first
  pub grows : old.count ≤ new.count
  pub asked : new.demands ≡ old.demands
  pub passed : new.calls ≡ old.calls
  pub there : AreMade new.count vars
  pub made : TargetsMade new.count after
  pub given : AreGiven old.count new.count before after
  pub from : (w : ℕ → Ground) (targets : List ℕ → Ground) → Agree after w targets → RolesFit targets rs (types_of w vars)
  pub to : (v : ℕ → Ground) (targets : List ℕ → Ground) (ts : List Ground) → Agree before v targets → RolesFit targets rs ts
      → (w : ℕ → Ground) × ((i : ℕ) → i < old.count → w i ≡ v i) × (types_of w vars ≡ ts) × Agree after w targets

-- the first so many of the names were given variables
pub record Naming (names : List (List ℕ)) (flags : List Bool) (old now : Drafted) (before after : List (List ℕ × VarId)) (rest : List (Option (List ℕ))) (vars : List VarId) : Type 0 where
  pub done : List (Option (List ℕ))
  pub all : done ++ rest ≡ roles names 0 flags
  pub named : Named old now before after done vars
