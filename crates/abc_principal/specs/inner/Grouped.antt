-- Which signatures the members of a group may have together, and what is asked for them.
use Rattle.std.specs.Prelude.{◌≡◌, ℕ, ◌<◌, ◌≤◌, Bool, true, false, List, [], ◌∷◌, map, length, take, drop, Option, Some, is_some}
use Rattle.std.specs.List.{All}
use Rattle.abc_num.specs.declared.types.Ground.{Ground}
use Rattle.abc_terms.specs.declared.term.VarId.{VarId}
use Rattle.abc_terms.specs.Demands.{MeetsAll}
use Rattle.abc_terms.specs.Nodes.{AreIn}
use Rattle.abc_unify.specs.Graphs.{Seen}
use Rattle.abc_unify.specs.Outer.{types}
use Rattle.abc_tree.specs.Calls.{unit_nodes}
use Rattle.abc_tree.specs.declared.templates.TemplateKind.{TemplateKind}
use Rattle.abc_tree.specs.declared.templates.TemplateKind.TheVariants as kind
use Rattle.abc_ground.specs.Calls.{next_of, AreAllowed}
use Rattle.abc_ground.specs.Fits.{Signature, Typing}
use Rattle.abc_ground.specs.Groups.{Cut, template_of}
use Rattle.abc_ground.specs.Items.{UnitFits}
use Rattle.abc_demand.specs.declared.env.Signature.{Signature as SignatureVars}
use Rattle.abc_demand.specs.Typings.{signature_of, signatures_of, var_of, Agree, SignatureMade, TargetsMade}
use Rattle.abc_demand.specs.Demanded.{AreGiven, IsDemanded}
use Rattle.abc_principal.specs.declared.principal.Principal.{Principal}
use Rattle.abc_principal.specs.Principals.{IsWhole, Has}
use Rattle.abc_principal.specs.Exact.{Known, AllProper}
use Rattle.abc_principal.specs.Calls.{MayCall, Targets}

-- for each member and its signature
abbrev pub Each : (Cut → Signature → Type 0) → List Cut → List Signature → Type 0
Each P [] [] = Unit {0}
Each P (c ∷ cs) (s ∷ ss) = P c s × Each P cs ss
Each P _ _ = ⊥

module _ (members : List Cut) (known : Known) where
  -- a member fits at a signature
  abbrev pub MemberFits : List Signature → (List ℕ → Ground) → Cut → Signature → Type 0
  MemberFits own targets c s =
      (g : Typing) × (ss : List (Option Signature)) × AreAllowed (MayCall members known own targets) (unit_nodes c.lines c.unit) ss × UnitFits next_of targets c.lines c.unit g s ss []

-- whether such a unit has a result
abbrev pub gives_result : TemplateKind → Bool
gives_result kind.Function = true
gives_result kind.Command = false
gives_result kind.Predicate = false

-- New variables, of which nothing is asked.
pub record AreFresh (old new : Seen) (vars : List VarId) : Type 0 where
  pub grows : old.count ≤ new.count
  pub asked : new.demands ≡ old.demands
  pub there : AreIn new.count vars
  pub to : (v : ℕ → Ground) (ts : List Ground) → length ts ≡ length vars → (w : ℕ → Ground) × ((i : ℕ) → i < old.count → w i ≡ v i) × (types w vars ≡ ts)

-- a signature has a type for each formal of the unit, and a result where the unit is a function
pub record HasShape (c : Cut) (s : Signature) : Type 0 where
  pub formals : length s.formals ≡ length c.unit.formals
  pub gives : is_some s.result ≡ gives_result c.unit.template.kind

-- New variables for the signatures of these units, of which nothing is asked.
pub record AreSignatures (old new : Seen) (cs : List Cut) (owns : List SignatureVars) : Type 0 where
  pub many : length owns ≡ length cs
  pub grows : old.count ≤ new.count
  pub asked : new.demands ≡ old.demands
  pub made : All (SignatureMade new.count) owns
  pub to : (v : ℕ → Ground) (ss : List Signature) → Each HasShape cs ss → (w : ℕ → Ground) × ((i : ℕ) → i < old.count → w i ≡ v i) × (map (signature_of w) owns ≡ ss)

-- a unit fits at its own signature and those of its calls
abbrev pub FitsWith : Cut → SignatureVars → List (Option SignatureVars) → (ℕ → Ground) → (List ℕ → Ground) → Type 0
FitsWith c own calls v targets = (g : Typing) × UnitFits next_of targets c.lines c.unit g (signature_of v own) (signatures_of v calls) []

-- exactly this is asked
pub record IsAsked (old new : Seen) (before after : Targets) (c : Cut) (own : SignatureVars) (calls : List (Option SignatureVars)) : Type 0 where
  pub grows : old.count ≤ new.count
  pub given : AreGiven old.count new.count before after
  pub demanded : IsDemanded old new before after (FitsWith c own calls)

-- what stands at place i alone
abbrev pub take_one : {X : Type 0} → ℕ → List X → List X
take_one i xs = take 1 (drop i xs)

-- Exactly is asked that these members fit, at the signatures `own` of them.
pub record AreFitted (members : List Cut) (known : Known) (owns : List SignatureVars) (old new : Seen) (before after : Targets) (cs : List Cut) (own : List SignatureVars) : Type 0 where
  pub grows : old.count ≤ new.count
  pub targets_made : TargetsMade new.count after
  pub given : AreGiven old.count new.count before after
  pub older : (v : ℕ → Ground) → MeetsAll v new.demands → MeetsAll v old.demands
  pub from : (v : ℕ → Ground) (targets : List ℕ → Ground) → AllProper v → Agree after v targets → MeetsAll v new.demands → Each (MemberFits members known (map (signature_of v) owns) targets) cs (map (signature_of v) own)
  pub to : (v : ℕ → Ground) (targets : List ℕ → Ground) → Agree before v targets → MeetsAll v old.demands → Each (MemberFits members known (map (signature_of v) owns) targets) cs (map (signature_of v) own)
      → (w : ℕ → Ground) × ((i : ℕ) → i < old.count → w i ≡ v i) × Agree after w targets × MeetsAll w new.demands

-- whatever meets the demands, they don't all fit
abbrev pub NoneFits : List Cut → Known → List SignatureVars → Seen → Targets → List Cut → List SignatureVars → Type 0
NoneFits members known owns old before cs own =
    (v : ℕ → Ground) (targets : List ℕ → Ground) → Agree before v targets → MeetsAll v old.demands → Each (MemberFits members known (map (signature_of v) owns) targets) cs (map (signature_of v) own) → ⊥

-- the variables of targets with these names
abbrev pub AreVarsOf : Targets → List (List ℕ) → List VarId → Type 0
AreVarsOf targets names vars = map (var_of targets) names ≡ map Some vars

-- The principal has exactly the signatures that the demands leave to these variables.
pub record IsRead (g : Seen) (vars : Targets) (c : Cut) (own : SignatureVars) (p : Principal) : Type 0 where
  pub whole : IsWhole p
  pub template : p.template ≡ template_of c
  pub from : (targets : List ℕ → Ground) (s : Signature) → Has p targets s → (v : ℕ → Ground) × MeetsAll v g.demands × Agree vars v targets × (signature_of v own ≡ s)
  pub to : (targets : List ℕ → Ground) (v : ℕ → Ground) → MeetsAll v g.demands → Agree vars v targets → Has p targets (signature_of v own)

abbrev pub AreRead : Seen → Targets → List Cut → List SignatureVars → List Principal → Type 0
AreRead g vars [] [] [] = Unit {0}
AreRead g vars (c ∷ cs) (own ∷ owns) (p ∷ ps) = IsRead g vars c own p × AreRead g vars cs owns ps
AreRead g vars _ _ _ = ⊥
