-- Principals of the units of a workspace, and of the members of one group.
use Rattle.std.specs.Prelude.{◌≡◌, ℕ, List, [], ◌∷◌, map, Option, None, Some, IsSome, if◌then◌else◌}
use Rattle.std.specs.List.{Contains}
use Rattle.abc_num.specs.Text.{text_eq}
use Rattle.abc_num.specs.Types.{IsProper}
use Rattle.abc_num.specs.declared.types.Ground.{Ground}
use Rattle.abc_tree.specs.Calls.{unit_nodes}
use Rattle.abc_tree.specs.Ordered.{RiseBy}
use Rattle.abc_tree.specs.Templates.{template_text}
use Rattle.abc_tree.specs.declared.templates.Template.{Template}
use Rattle.abc_ground.specs.Fits.{Signature}
use Rattle.abc_ground.specs.Groups.{Cut, cut_of, template_of, AreTogether}
use Rattle.abc_ground.specs.Typable.{IsProperSignature, May}
use Rattle.abc_principal.specs.declared.member.Member.{Member}
use Rattle.abc_principal.specs.declared.principal.Principal.{Principal}
use Rattle.abc_principal.specs.Principals.{IsWhole, Has}

-- principals by the texts of their units' templates
abbrev pub Known : Type 0
Known = List (List ℕ × Principal)

-- the principal of the unit with a template of this text, if it is known
abbrev pub known_of : Known → List ℕ → Option Principal
known_of [] text = None
known_of (p ∷ ps) text = if text_eq text p.0 then Some p.1 else known_of ps text

-- each of them is whole
abbrev pub AreWhole : Known → Type 0
AreWhole known = (text : List ℕ) (p : Principal) → known_of known text ≡ Some p → IsWhole p

-- a unit of a group as a cut
abbrev pub cut_in : Member → Cut
cut_in m = record { unit = m.unit.now; lines = m.lines }

abbrev pub cuts_of : List Member → List Cut
cuts_of members = map cut_in members

-- all types of target names are proper
abbrev pub AreProper : (List ℕ → Ground) → Type 0
AreProper targets = (name : List ℕ) → IsProper (targets name)

-- all types of variables are proper
abbrev pub AllProper : (ℕ → Ground) → Type 0
AllProper v = (a : ℕ) → IsProper (v a)

-- The principal says exactly which signatures the unit with this template may have in w, whatever types the targets have.
pub record IsPrincipal (w : List Cut) (t : Template) (p : Principal) : Type 0 where
  pub whole : IsWhole p
  pub may : (targets : List ℕ → Ground) (s : Signature) → AreProper targets → IsProperSignature s → Has p targets s → May w targets t s
  pub has : (targets : List ℕ → Ground) (s : Signature) → AreProper targets → May w targets t s → Has p targets s

-- The members are one whole group of w, in the order of their templates. A call within the group has the very template of
-- its unit.
pub record IsGroup (w members : List Cut) : Type 0 where
  pub rising : RiseBy template_of members
  pub there : (c : Cut) → Contains members c → cut_of (template_of c) w ≡ Some c
  pub together : (c d : Cut) → Contains members c → Contains members d → AreTogether w (template_of c) (template_of d)
  pub all : (c d : Cut) (t : Template) → Contains members c → AreTogether w (template_of c) t → cut_of t w ≡ Some d → Contains members d
  pub spelled : (c d : Cut) (t : Template) → Contains members c → Contains members d → Contains (unit_nodes c.lines c.unit) t → template_text t ≡ template_text (template_of d) → t ≡ template_of d

-- What the members call outside of their group is known exactly, or is missing.
pub record KnowsCalls (w members : List Cut) (known : Known) : Type 0 where
  pub missing : (c : Cut) (t : Template) → Contains members c → Contains (unit_nodes c.lines c.unit) t → cut_of t w ≡ None → known_of known (template_text t) ≡ None
  pub outside : (c : Cut) (t : Template) → Contains members c → Contains (unit_nodes c.lines c.unit) t → IsSome (cut_of t w) → (AreTogether w (template_of c) t → ⊥)
      → (p : Principal) × (known_of known (template_text t) ≡ Some p) × IsPrincipal w t p

-- one principal for each member, in their order
abbrev pub ArePrincipals : List Cut → List Cut → List Principal → Type 0
ArePrincipals w [] [] = Unit {0}
ArePrincipals w (c ∷ cs) (p ∷ ps) = (p.template ≡ template_of c) × IsPrincipal w (template_of c) p × ArePrincipals w cs ps
ArePrincipals w _ _ = ⊥

-- no member may have a signature, whatever types the targets have
abbrev pub MayNothing : List Cut → List Cut → Type 0
MayNothing w members = (targets : List ℕ → Ground) (c : Cut) (s : Signature) → AreProper targets → Contains members c → May w targets (template_of c) s → ⊥
