-- Variables for the types of a shape, and what a value asks of the type of its target.
use Rattle.std.specs.Prelude.{◌≡◌, ℕ, ◌<◌, ◌≤◌, List, [], ◌∷◌}
use Rattle.std.specs.List.{AllByRecursion}
use Rattle.abc_num.specs.Types.{IsProper}
use Rattle.abc_num.specs.declared.types.Ground.{Ground}
use Rattle.abc_num.specs.declared.types.Ground.TheVariants as type
use Rattle.abc_terms.specs.declared.term.VarId.{VarId}
use Rattle.abc_terms.specs.Demands.{MeetsAll}
use Rattle.abc_unify.specs.Graphs.{Seen}
use Rattle.abc_value.specs.Types.{IsCollection}
use Rattle.abc_value.specs.Forms.{Form, fits}
use Rattle.abc_value.specs.declared.shape.ShapeKind.{ShapeKind}
use Rattle.abc_value.specs.declared.shape.ShapeKind.TheVariants.{Anything, Number, Text, Collection, Compound, List as Listed, Table}
use Rattle.abc_demand.specs.Typings.{types_of, Agree, AreMade, TargetsMade}

-- A variable was made whose types are exactly those that P tells: whatever meets the new demands met the old ones, and gives one
-- of them; and what meets the old ones meets the new ones with any proper one of them.
pub record IsVarFor (P : (ℕ → Ground) → Ground → Type 0) (old new : Seen) (a : VarId) : Type 0 where
  pub grows : old.count ≤ new.count
  pub there : a.0 < new.count
  pub older : (v : ℕ → Ground) → MeetsAll v new.demands → MeetsAll v old.demands
  pub from : (v : ℕ → Ground) → MeetsAll v new.demands → P v (v a.0)
  pub to : (v : ℕ → Ground) (g : Ground) → IsProper g → MeetsAll v old.demands → P v g → (w : ℕ → Ground) × ((i : ℕ) → i < old.count → w i ≡ v i) × (w a.0 ≡ g) × MeetsAll w new.demands

-- whatever meets the demands, P tells no proper type
abbrev pub NoVarFor : ((ℕ → Ground) → Ground → Type 0) → Seen → Type 0
NoVarFor P old = (v : ℕ → Ground) (g : Ground) → IsProper g → MeetsAll v old.demands → P v g → ⊥

-- the type is of this kind, with parts of these types
abbrev pub IsOuter : ShapeKind → List Ground → Ground → Type 0
IsOuter Anything gs g = Unit {0}
IsOuter Number gs g = g ≡ type.Number
IsOuter Text gs g = g ≡ type.Text
IsOuter Collection gs g = IsCollection g
IsOuter Compound gs g = g ≡ type.Compound gs
IsOuter Listed (e ∷ []) g = g ≡ type.List e
IsOuter Listed _ g = ⊥
IsOuter Table (k ∷ (a ∷ [])) g = g ≡ type.Table k a
IsOuter Table _ g = ⊥

abbrev pub IsOuterVar : ShapeKind → List VarId → Seen → Seen → VarId → Type 0
IsOuterVar kind parts old new a = IsVarFor (λ v g. IsOuter kind (types_of v parts) g) old new a

abbrev pub NoOuterVar : ShapeKind → List VarId → Seen → Type 0
NoOuterVar kind parts old = NoVarFor (λ v g. IsOuter kind (types_of v parts) g) old

-- a variable for the types of a form
abbrev pub IsShapeVar : Form → Seen → Seen → VarId → Type 0
IsShapeVar form old new a = IsVarFor (λ v g. fits form g) old new a

abbrev pub NoShapeVar : Form → Seen → Type 0
NoShapeVar form old = NoVarFor (λ v g. fits form g) old

-- each type is of the form at its place
abbrev pub AllFit : List Form → List Ground → Type 0
AllFit [] [] = Unit {0}
AllFit (s ∷ ss) (g ∷ gs) = fits s g × AllFit ss gs
AllFit _ _ = ⊥

-- the same of a variable for each of these forms
pub record AreShapeVars (forms : List Form) (old new : Seen) (vars : List VarId) : Type 0 where
  pub grows : old.count ≤ new.count
  pub there : AreMade new.count vars
  pub older : (v : ℕ → Ground) → MeetsAll v new.demands → MeetsAll v old.demands
  pub from : (v : ℕ → Ground) → MeetsAll v new.demands → AllFit forms (types_of v vars)
  pub to : (v : ℕ → Ground) (gs : List Ground) → AllByRecursion IsProper gs → MeetsAll v old.demands → AllFit forms gs
      → (w : ℕ → Ground) × ((i : ℕ) → i < old.count → w i ≡ v i) × (types_of w vars ≡ gs) × MeetsAll w new.demands

abbrev pub NoShapeVars : List Form → Seen → Type 0
NoShapeVars forms old = (v : ℕ → Ground) (gs : List Ground) → AllByRecursion IsProper gs → MeetsAll v old.demands → AllFit forms gs → ⊥

-- Exactly is asked that the type of this target is of the form. `before` and `after` are the variables of targets.
pub record IsHeld (name : List ℕ) (form : Form) (old new : Seen) (before after : List (List ℕ × VarId)) : Type 0 where
  pub made : TargetsMade new.count after
  pub fewer : (v : ℕ → Ground) (targets : List ℕ → Ground) → Agree after v targets → Agree before v targets
  pub older : (v : ℕ → Ground) → MeetsAll v new.demands → MeetsAll v old.demands
  pub from : (v : ℕ → Ground) (targets : List ℕ → Ground) → Agree after v targets → MeetsAll v new.demands → fits form (targets name)
  pub to : (v : ℕ → Ground) (targets : List ℕ → Ground) → IsProper (targets name) → Agree before v targets → MeetsAll v old.demands → fits form (targets name)
      → (w : ℕ → Ground) × Agree after w targets × MeetsAll w new.demands

-- whatever meets the demands, the type of the target is not of the form
abbrev pub NotHeld : List ℕ → Form → Seen → List (List ℕ × VarId) → Type 0
NotHeld name form old before = (v : ℕ → Ground) (targets : List ℕ → Ground) → IsProper (targets name) → Agree before v targets → MeetsAll v old.demands → fits form (targets name) → ⊥
