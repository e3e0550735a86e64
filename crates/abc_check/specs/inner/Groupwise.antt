-- What is known of the units of the first groups.
use Rattle.std.specs.Prelude.{◌≡◌, ℕ, ◌<◌, List, [], ◌∷◌, None, Some}
use Rattle.std.specs.List.{Contains}
use Rattle.abc_tree.specs.Templates.{template_text}
use Rattle.abc_tree.specs.declared.templates.Template.{Template}
use Rattle.abc_ground.specs.Groups.{Cut, cut_of, template_of}
use Rattle.abc_principal.specs.declared.principal.Principal.{Principal}
use Rattle.abc_principal.specs.Exact.{Known, known_of, IsPrincipal}
use Rattle.abc_groups.specs.Groups.{group_at}

-- it is known exactly which signatures the unit may have
abbrev pub IsKnown : Known → List Cut → Cut → Type 0
IsKnown known w c = (p : Principal) × (known_of known (template_text (template_of c)) ≡ Some p) × IsPrincipal w (template_of c) p

-- of the units of the first k groups, and nothing of missing ones
pub record KnowsGroups (w : List Cut) (groups : List (List (List ℕ))) (k : ℕ) (known : Known) : Type 0 where
  pub missing : (t : Template) → cut_of t w ≡ None → known_of known (template_text t) ≡ None
  pub there : (c : Cut) (g : ℕ) → cut_of (template_of c) w ≡ Some c → g < k → Contains (group_at groups g) (template_text (template_of c)) → IsKnown known w c

-- the units that these templates have
abbrev pub AreFound : List Cut → List Template → List Cut → Type 0
AreFound w [] [] = Unit {0}
AreFound w (t ∷ ts) (c ∷ cs) = (cut_of t w ≡ Some c) × AreFound w ts cs
AreFound w _ _ = ⊥

-- principals were put one after the other, the last of these first
abbrev pub ArePut : Known → Known → List Principal → Type 0
ArePut old new [] = (t : List ℕ) → known_of new t ≡ known_of old t
ArePut old new (p ∷ ps) =
    (mid : Known) × ArePut old mid ps × (known_of new (template_text p.template) ≡ Some p) × ((t : List ℕ) → (t ≡ template_text p.template → ⊥) → known_of new t ≡ known_of mid t)
