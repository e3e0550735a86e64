-- What is known when the principals of a group are put to the others.
use Rattle.std.proofs.Common.{◌≡◌, ◌∙◌, ◌<◌, ◌≤◌, ◌+◌, ◌⊎◌, inl, inr, ℕ, zero, suc, List, [], ◌∷◌, ap, sym, subst, refl, arith}
use Rattle.std.specs.Prelude.{None, Some}
use Rattle.std.specs.List.{Contains}
use Rattle.std.proofs.lemmas.Bool.{cases_lt}
use Rattle.abc_tree.specs.Templates.{template_text}
use Rattle.abc_tree.specs.declared.templates.Template.{Template}
use Rattle.abc_groups.specs.Groups.{group_at}
use Rattle.abc_ground.specs.Groups.{Cut, cut_of, template_of}
use Rattle.abc_principal.specs.declared.principal.Principal.{Principal}
use Rattle.abc_principal.specs.Exact.{Known, known_of, ArePrincipals}
use Rattle.abc_check.specs.inner.Groupwise.{IsKnown, KnowsGroups, ArePut}
use Rattle.abc_fewer.proofs.Among.{same_or}
use Rattle.abc_fewer.proofs.Ways.{cut_same}

module _ (w : List Cut) where
  abbrev AreThere : List Cut → Type 0
  AreThere cs = (c : Cut) → Contains cs c → cut_of (template_of c) w ≡ Some c

  rest_there : (c : Cut) (cs : List Cut) → AreThere (c ∷ cs) → AreThere cs
  rest_there c cs there d m = there d (suc m.0, omega (arith, m.1), m.2)

  first_there : (c : Cut) (cs : List Cut) → AreThere (c ∷ cs) → cut_of (template_of c) w ≡ Some c
  first_there c cs there = there c (0, omega arith, refl)

  put_missing : (old new : Known) (cs : List Cut) (ps : List Principal) (t : Template) → ArePrincipals w cs ps → AreThere cs → ArePut old new ps → cut_of t w ≡ None → known_of old (template_text t) ≡ None → known_of new (template_text t) ≡ None
  put_missing old new [] [] t are there put none was = put (template_text t) ∙ was
  put_missing old new [] (p ∷ ps) t are there put none was = absurd are
  put_missing old new (c ∷ cs) [] t are there put none was = absurd are
  put_missing old new (c ∷ cs) (p ∷ ps) t are there put none was = put.3 (template_text t) other ∙ put_missing old put.0 cs ps t are.2 (rest_there c cs there) put.1 none was
    where
      other : template_text t ≡ template_text p.template → ⊥
      other e =
          let f : None ≡ Some c = sym none ∙ (cut_same w t (template_of c) (e ∙ ap template_text are.0) ∙ first_there c cs there) in
          cc

  put_known : (old new : Known) (cs : List Cut) (ps : List Principal) (d : Cut) → ArePrincipals w cs ps → AreThere cs → ArePut old new ps → cut_of (template_of d) w ≡ Some d → (IsKnown old w d) ⊎ (Contains cs d) → IsKnown new w d
  put_known old new [] [] d are there put is (inl k) = (k.0, put (template_text (template_of d)) ∙ k.1, k.2)
  put_known old new [] [] d are there put is (inr m) = absurd (omega (arith, m.1))
  put_known old new [] (p ∷ ps) d are there put is k = absurd are
  put_known old new (c ∷ cs) [] d are there put is k = absurd are
  put_known old new (c ∷ cs) (p ∷ ps) d are there put is k =
      by_text (same_or (template_text (template_of d)) (template_text (template_of c))) (put_known old put.0 cs ps d are.2 (rest_there c cs there) put.1 is)
    where
      by_text : (template_text (template_of d) ≡ template_text (template_of c)) ⊎ (template_text (template_of d) ≡ template_text (template_of c) → ⊥) → ((IsKnown old w d) ⊎ (Contains cs d) → IsKnown put.0 w d) → IsKnown new w d
      by_text (inl e) rest =
          let f : Some d ≡ Some c = sym is ∙ (cut_same w (template_of d) (template_of c) e ∙ first_there c cs there) in
          let g : d ≡ c = cc in
          subst (λ x. IsKnown new w x) (sym g) (p, ap (λ u. known_of new (template_text u)) (sym are.0) ∙ put.2, are.1)
      by_text (inr n) rest =
          let r : IsKnown put.0 w d = rest (later k) in
          (r.0, put.3 (template_text (template_of d)) (λ e. n (e ∙ ap template_text are.0)) ∙ r.1, r.2)
        where
          later : (IsKnown old w d) ⊎ (Contains (c ∷ cs) d) → (IsKnown old w d) ⊎ (Contains cs d)
          later (inl was) = inl was
          later (inr (zero, lt, e)) = absurd (n (ap (λ (x : Cut). template_text (template_of x)) (sym e)))
          later (inr (suc i, lt, e)) = inr (i, omega (arith, lt), e)

  -- one group more is known
  pub knows_next : (groups : List (List (List ℕ))) (k : ℕ) (old new : Known) (cs : List Cut) (ps : List Principal) → ArePrincipals w cs ps → AreThere cs
      → ((d : Cut) → Contains (group_at groups k) (template_text (template_of d)) → cut_of (template_of d) w ≡ Some d → Contains cs d)
      → ArePut old new ps → KnowsGroups w groups k old → KnowsGroups w groups (k + 1) new
  knows_next groups k old new cs ps are there all put knows = record {
    missing = λ t none. put_missing old new cs ps t are there put none (knows.missing t none);
    there = λ d g is low m. put_known old new cs ps d are there put is (by_group d g is low m (cases_lt g k));
  }
    where
      by_group : (d : Cut) (g : ℕ) → cut_of (template_of d) w ≡ Some d → g < k + 1 → Contains (group_at groups g) (template_text (template_of d)) → (g < k) ⊎ (k ≤ g) → (IsKnown old w d) ⊎ (Contains cs d)
      by_group d g is low m (inl less) = inl (knows.there d g is less m)
      by_group d g is low m (inr more) =
          let e : g ≡ k = omega (arith, low, more) in
          inr (all d (subst (λ i. Contains (group_at groups i) (template_text (template_of d))) e m) is)
