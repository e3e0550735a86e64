-- Which signatures calls may have, and what is asked for them.
use Rattle.std.specs.Prelude.{◌≡◌, ℕ, ◌<◌, ◌≤◌, Bool, true, false, List, ◌∷◌, map, Option, None, Some, if◌then◌else◌}
use Rattle.std.specs.List.{All}
use Rattle.std.specs.Ordering.{match_ordering}
use Rattle.abc_num.specs.declared.types.Ground.{Ground}
use Rattle.abc_terms.specs.declared.term.VarId.{VarId}
use Rattle.abc_terms.specs.Demands.{MeetsAll}
use Rattle.abc_unify.specs.Graphs.{Seen}
use Rattle.abc_tree.specs.Templates.{template_cmp, template_text}
use Rattle.abc_tree.specs.declared.templates.Template.{Template}
use Rattle.abc_ground.specs.Calls.{AreAllowed}
use Rattle.abc_ground.specs.Fits.{Signature}
use Rattle.abc_ground.specs.Groups.{Cut, template_of}
use Rattle.abc_ground.specs.Typable.{IsProperSignature}
use Rattle.abc_demand.specs.declared.env.Signature.{Signature as SignatureVars}
use Rattle.abc_demand.specs.Typings.{signature_of, signatures_of, Agree, CallMade, TargetsMade}
use Rattle.abc_demand.specs.Demanded.{AreGiven}
use Rattle.abc_principal.specs.declared.principal.Principal.{Principal}
use Rattle.abc_principal.specs.Principals.{Has}
use Rattle.abc_principal.specs.Exact.{Known, known_of, AllProper}

-- the template is that of the unit
abbrev pub is_called : Template → Cut → Bool
is_called t c = match_ordering (template_cmp (template_of c) t) false true false

-- what stands at the place of the member with this template
abbrev pub own_of : {X : Type 0} → Template → List Cut → List X → Option X
own_of t (c ∷ cs) (x ∷ xs) = if is_called t c then Some x else own_of t cs xs
own_of t _ _ = None

-- the signature of a call of a unit that is known, or of a missing one
abbrev pub IsKnownCall : Option Principal → (List ℕ → Ground) → Option Signature → Type 0
IsKnownCall None targets o = o ≡ None
IsKnownCall (Some p) targets o = (s : Signature) × (o ≡ Some s) × IsProperSignature s × Has p targets s

-- the same of any call, where the member that is called has this signature
abbrev pub IsCall : Option Signature → Option Principal → (List ℕ → Ground) → Option Signature → Type 0
IsCall (Some own) p targets o = o ≡ Some own
IsCall None p targets o = IsKnownCall p targets o

-- The signature that a call of t may use where the members have these.
abbrev pub MayCall : List Cut → Known → List Signature → (List ℕ → Ground) → Template → Option Signature → Type 0
MayCall members known own targets t o = IsCall (own_of t members own) (known_of known (template_text t)) targets o

-- variables of targets, by their names
abbrev pub Targets : Type 0
Targets = List (List ℕ × VarId)

-- The calls of these templates have these signatures, of which exactly is asked what their units may have. `owns` are the
-- signatures of the members.
pub record AreCalls (members : List Cut) (known : Known) (owns : List SignatureVars) (old new : Seen) (before after : Targets) (templates : List Template) (calls : List (Option SignatureVars)) : Type 0 where
  pub grows : old.count ≤ new.count
  pub made : All (CallMade new.count) calls
  pub targets_made : TargetsMade new.count after
  pub given : AreGiven old.count new.count before after
  pub older : (v : ℕ → Ground) → MeetsAll v new.demands → MeetsAll v old.demands
  pub from : (v : ℕ → Ground) (targets : List ℕ → Ground) → AllProper v → Agree after v targets → MeetsAll v new.demands → AreAllowed (MayCall members known (map (signature_of v) owns) targets) templates (signatures_of v calls)
  pub to : (v : ℕ → Ground) (targets : List ℕ → Ground) (ss : List (Option Signature)) → Agree before v targets → MeetsAll v old.demands → AreAllowed (MayCall members known (map (signature_of v) owns) targets) templates ss
      → (w : ℕ → Ground) × ((i : ℕ) → i < old.count → w i ≡ v i) × Agree after w targets × (signatures_of w calls ≡ ss) × MeetsAll w new.demands

-- whatever meets the demands, the calls may have no signatures
abbrev pub NoCalls : List Cut → Known → List SignatureVars → Seen → Targets → List Template → Type 0
NoCalls members known owns old before templates =
    (v : ℕ → Ground) (targets : List ℕ → Ground) (ss : List (Option Signature)) → Agree before v targets → MeetsAll v old.demands → AreAllowed (MayCall members known (map (signature_of v) owns) targets) templates ss → ⊥
