-- The signatures that a unit may have, as data, and what an instance of it asks.
use Rattle.std.specs.Prelude.{◌≡◌, ℕ, ◌+◌, ◌<◌, ◌≤◌, Bool, true, false, List, [], ◌∷◌, ◌++◌, map, length, Option, None, Some, is_some}
use Rattle.abc_num.specs.declared.types.Ground.{Ground}
use Rattle.abc_terms.specs.declared.term.VarId.{VarId}
use Rattle.abc_terms.specs.Demands.{MeetsAll}
use Rattle.abc_unify.specs.Graphs.{Seen}
use Rattle.abc_ground.specs.Fits.{Signature}
use Rattle.abc_demand.specs.declared.env.Signature.{Signature as SignatureVars}
use Rattle.abc_demand.specs.Typings.{signature_of, Agree, SignatureMade, TargetsMade}
use Rattle.abc_demand.specs.Demanded.{AreGiven}
use Rattle.abc_scheme.specs.Schemes.{StandsFor, IsInside}
use Rattle.abc_principal.specs.declared.principal.Principal.{Principal}

abbrev pub if_any : {X : Type 0} → Option X → List X
if_any None = []
if_any (Some x) = x ∷ []

-- the types of a signature one after the other: of the formals, and of the result where there is one
abbrev pub signature_types : Signature → List Ground
signature_types s = s.formals ++ if_any s.result

-- the variables of a signature in the same order
abbrev pub variables : SignatureVars → List VarId
variables s = s.formals ++ if_any s.result

abbrev pub results : Bool → ℕ
results true = 1
results false = 0

-- the scheme is about the targets, the formals, and the result of a function
pub record IsWhole (p : Principal) : Type 0 where
  pub inside : IsInside p.scheme
  pub count : length p.scheme.own ≡ length p.targets + (p.formals + results p.gives)

-- the unit may have the signature where the targets have these types
pub record Has (p : Principal) (targets : List ℕ → Ground) (s : Signature) : Type 0 where
  pub formals : length s.formals ≡ p.formals
  pub gives : is_some s.result ≡ p.gives
  pub stands : StandsFor p.scheme (map targets p.targets ++ signature_types s)

-- The variables of a signature were made, and exactly the signatures that the unit may have are left to them: whatever meets
-- the new demands met the old ones, and gives one of these; and what meets the old ones meets the new ones with any of these.
-- `before` and `after` are the variables of targets.
pub record IsInstance (p : Principal) (old new : Seen) (before after : List (List ℕ × VarId)) (s : SignatureVars) : Type 0 where
  pub grows : old.count ≤ new.count
  pub made : SignatureMade new.count s
  pub targets_made : TargetsMade new.count after
  pub given : AreGiven old.count new.count before after
  pub older : (v : ℕ → Ground) → MeetsAll v new.demands → MeetsAll v old.demands
  pub from : (v : ℕ → Ground) (targets : List ℕ → Ground) → Agree after v targets → MeetsAll v new.demands → Has p targets (signature_of v s)
  pub to : (v : ℕ → Ground) (targets : List ℕ → Ground) (t : Signature) → Agree before v targets → MeetsAll v old.demands → Has p targets t
      → (w : ℕ → Ground) × ((i : ℕ) → i < old.count → w i ≡ v i) × Agree after w targets × (signature_of w s ≡ t) × MeetsAll w new.demands

-- whatever meets the demands, the unit may have no signature
abbrev pub HasNone : Principal → Seen → List (List ℕ × VarId) → Type 0
HasNone p old before = (v : ℕ → Ground) (targets : List ℕ → Ground) (t : Signature) → Agree before v targets → MeetsAll v old.demands → Has p targets t → ⊥
