-- What principals give is what calls are offered.
use Rattle.std.proofs.Common.{◌≡◌, ◌∙◌, ℕ, zero, suc, List, [], ◌∷◌, sym, subst, refl}
use Rattle.std.specs.Prelude.{Option, None, Some, IsSome}
use Rattle.std.specs.List.{AllByRecursion}
use Rattle.abc_num.specs.declared.types.Ground.{Ground}
use Rattle.abc_tree.specs.Templates.{template_text}
use Rattle.abc_tree.specs.declared.templates.Template.{Template}
use Rattle.abc_ground.specs.Calls.{AreAllowed}
use Rattle.abc_ground.specs.Fits.{Signature}
use Rattle.abc_ground.specs.Groups.{Cut, cut_of, template_of, AreTogether}
use Rattle.abc_ground.specs.Typable.{IsProperSignature, MayWithin, May, IsOffered}
use Rattle.abc_principal.specs.declared.principal.Principal.{Principal}
use Rattle.abc_principal.specs.Exact.{Known, known_of, AreProper, IsPrincipal}
use Rattle.abc_principal.specs.Calls.{IsKnownCall, MayCall}
use Rattle.abc_check.proofs.Somes.{not_some, is_there}
use Rattle.abc_check.specs.Standing.{IsSpelled, AreSpelled, KnowsUnits}

-- what each call may use may be weaker, for templates with some property
pub allowed_weaker : (S : Template → Type 0) (P Q : Template → Option Signature → Type 0) → ((t : Template) (o : Option Signature) → S t → P t o → Q t o) → (ts : List Template) (ss : List (Option Signature)) → AllByRecursion S ts → AreAllowed P ts ss → AreAllowed Q ts ss
allowed_weaker S P Q f [] [] b a = tt
allowed_weaker S P Q f [] (s ∷ ss) b a = absurd a
allowed_weaker S P Q f (t ∷ ts) [] b a = absurd a
allowed_weaker S P Q f (t ∷ ts) (s ∷ ss) b a = (f t s b.0 a.0, allowed_weaker S P Q f ts ss b.1 a.1)

module _ (w : List Cut) (targets : List ℕ → Ground) where
  alone : (t : Template) → AreTogether w t t
  alone t = ((0, refl), (0, refl))

  -- a signature that a unit may have is proper
  within_proper : (n : ℕ) (t : Template) (s : Signature) → MayWithin w targets n t s → IsProperSignature s
  within_proper zero t s m = absurd m
  within_proper (suc n) t s m = by_cut (cut_of t w) refl m.0
    where
      by_cut : (o : Option Cut) → cut_of t w ≡ o → IsSome o → IsProperSignature s
      by_cut None is some = absurd (not_some Cut some)
      by_cut (Some c) is some = subst (λ (x : Signature). IsProperSignature x) m.1.1 (m.1.2 t c (alone t) is).0

  pub may_proper : (t : Template) (s : Signature) → May w targets t s → IsProperSignature s
  may_proper t s m = within_proper m.0 t s m.1

module _ (known : Known) (w : List Cut) (targets : List ℕ → Ground) (knows : KnowsUnits known w) (proper : AreProper targets) where
  abbrev Exactly : Template → Type 0
  Exactly t = (p : Principal) × (known_of known (template_text t) ≡ Some p) × IsPrincipal w t p

  exactly : (t : Template) (c : Cut) → IsSpelled w t → cut_of t w ≡ Some c → Exactly t
  exactly t c spelled is =
      let p : (p : Principal) × (known_of known (template_text t) ≡ Some p) × IsPrincipal w (template_of c) p = knows.there t c is in
      (p.0, p.1, subst (λ u. IsPrincipal w u p.0) (sym (spelled c is)) p.2)

  offered : (t : Template) (o : Option Signature) → IsSpelled w t → MayCall [] known [] targets t o → IsOffered w targets t o
  offered t o spelled h = by_cut (cut_of t w) refl
    where
      by_cut : (c : Option Cut) → cut_of t w ≡ c → IsOffered w targets t o
      by_cut None is =
          let none : known_of known (template_text t) ≡ None = knows.missing t is in
          let k : IsKnownCall None targets o = subst (λ (p : Option Principal). IsKnownCall p targets o) none h in
          record { missing = λ e. k; there = λ some. absurd (not_some Cut (subst (λ (x : Option Cut). IsSome x) is some)) }
      by_cut (Some c) is =
          let p : Exactly t = exactly t c spelled is in
          let k : IsKnownCall (Some p.0) targets o = subst (λ (q : Option Principal). IsKnownCall q targets o) p.1 h in
          record {
            missing = λ e. absurd (let f : None ≡ Some c = sym e ∙ is in cc);
            there = λ more. (k.0, k.1, p.2.may targets k.0 proper k.2 k.3);
          }

  called : (t : Template) (o : Option Signature) → IsSpelled w t → IsOffered w targets t o → MayCall [] known [] targets t o
  called t o spelled h = by_cut (cut_of t w) refl
    where
      by_cut : (c : Option Cut) → cut_of t w ≡ c → IsKnownCall (known_of known (template_text t)) targets o
      by_cut None is = subst (λ (p : Option Principal). IsKnownCall p targets o) (sym (knows.missing t is)) (h.missing is)
      by_cut (Some c) is =
          let some : IsSome (cut_of t w) = is_there (cut_of t w) c is in
          let p : Exactly t = exactly t c spelled is in
          let g : (g : Signature) × (o ≡ Some g) × May w targets t g = h.there some in
          subst (λ (q : Option Principal). IsKnownCall q targets o) (sym p.1) (g.0, g.1, may_proper w targets t g.0 g.2, p.2.has targets g.0 proper g.2)

  pub all_offered : (ts : List Template) (ss : List (Option Signature)) → AreSpelled w ts → AreAllowed (MayCall [] known [] targets) ts ss → AreAllowed (λ t o. IsOffered w targets t o) ts ss
  all_offered = allowed_weaker (IsSpelled w) (MayCall [] known [] targets) (λ t o. IsOffered w targets t o) offered

  pub all_called : (ts : List Template) (ss : List (Option Signature)) → AreSpelled w ts → AreAllowed (λ t o. IsOffered w targets t o) ts ss → AreAllowed (MayCall [] known [] targets) ts ss
  all_called = allowed_weaker (IsSpelled w) (λ t o. IsOffered w targets t o) (MayCall [] known [] targets) called
