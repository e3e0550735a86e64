-- Each group of templates is a group of the units, and what its units call is known before it.
use Rattle.std.proofs.Common.{◌≡◌, ◌∙◌, ◌<◌, ◌≤◌, ◌⊎◌, inl, inr, ℕ, zero, suc, List, [], ◌∷◌, length, ap, sym, subst, refl, arith}
use Rattle.std.specs.Prelude.{Option, None, Some, IsSome}
use Rattle.std.specs.List.{AllByRecursion, Contains}
use Rattle.std.specs.declared.cmp.Ordering.TheVariants.{Less}
use Rattle.std.proofs.lemmas.Bool.{cases_lt}
use Rattle.abc_num.specs.Text.{text_cmp}
use Rattle.abc_tree.specs.Calls.{unit_nodes}
use Rattle.abc_tree.specs.Ordered.{RiseBy}
use Rattle.abc_tree.specs.Templates.{template_cmp, template_text}
use Rattle.abc_tree.specs.declared.templates.Template.{Template}
use Rattle.abc_groups.specs.Groups.{AreGroups, group_at}
use Rattle.abc_groups.specs.Program.{program_of, texts}
use Rattle.abc_groups.specs.Reach as reach
use Rattle.abc_groups.proofs.Texts.{contains_map, map_contains}
use Rattle.abc_ground.specs.Groups.{Cut, cut_of, template_of, called, AreTogether}
use Rattle.abc_principal.specs.declared.principal.Principal.{Principal}
use Rattle.abc_principal.specs.Exact.{Known, known_of, IsPrincipal, IsGroup, KnowsCalls}
use Rattle.abc_check.proofs.Somes.{not_some}
use Rattle.abc_check.specs.Cuts.{entries_in, CutsAreSpelled, NodesAreCalled}
use Rattle.abc_check.specs.inner.Groupwise.{IsKnown, KnowsGroups, AreFound}
use Rattle.abc_fewer.proofs.Ways.{cut_same, cut_found}
use Rattle.abc_check.proofs.Finding.{program, called_is, program_there, together_to, together_from}

-- ---- the units of some templates

module _ (w : List Cut) where
  pub member_found : (ts : List Template) (cs : List Cut) (c : Cut) → AreFound w ts cs → Contains cs c → (t : Template) × Contains ts t × (cut_of t w ≡ Some c)
  member_found [] [] c f (i, lt, e) = absurd (omega (arith, lt))
  member_found [] (d ∷ cs) c f (i, lt, e) = absurd f
  member_found (t ∷ ts) [] c f (i, lt, e) = absurd f
  member_found (t ∷ ts) (d ∷ cs) c f (zero, lt, e) = (t, (zero, omega arith, refl), f.0 ∙ ap (λ (x : Cut). Some x) e)
  member_found (t ∷ ts) (d ∷ cs) c f (suc i, lt, e) =
      let r : (t : Template) × Contains ts t × (cut_of t w ≡ Some c) = member_found ts cs c f.1 (i, omega (arith, lt), e) in
      (r.0, (suc r.1.0, omega (arith, r.1.1), r.1.2), r.2)

  pub found_member : (ts : List Template) (cs : List Cut) (t : Template) → AreFound w ts cs → Contains ts t → (c : Cut) × Contains cs c × (cut_of t w ≡ Some c)
  found_member [] [] t f (i, lt, e) = absurd (omega (arith, lt))
  found_member [] (d ∷ cs) t f (i, lt, e) = absurd f
  found_member (u ∷ ts) [] t f (i, lt, e) = absurd f
  found_member (u ∷ ts) (d ∷ cs) t f (zero, lt, e) = (d, (zero, omega arith, refl), ap (λ v. cut_of v w) (sym e) ∙ f.0)
  found_member (u ∷ ts) (d ∷ cs) t f (suc i, lt, e) =
      let r : (c : Cut) × Contains cs c × (cut_of t w ≡ Some c) = found_member ts cs t f.1 (i, omega (arith, lt), e) in
      (r.0, (suc r.1.0, omega (arith, r.1.1), r.1.2), r.2)

  below_found : (t : Template) (c : Cut) (us : List Template) (ds : List Cut) → template_text t ≡ template_text (template_of c) → AllByRecursion (λ u. template_cmp t u ≡ Less) us → AreFound w us ds
      → AllByRecursion (λ d. template_cmp (template_of c) (template_of d) ≡ Less) ds
  below_found t c [] [] e each f = tt
  below_found t c [] (d ∷ ds) e each f = absurd f
  below_found t c (u ∷ us) [] e each f = absurd f
  below_found t c (u ∷ us) (d ∷ ds) e each f = (
    subst (λ s. text_cmp s (template_text (template_of d)) ≡ Less) e (subst (λ s. text_cmp (template_text t) s ≡ Less) (cut_found w u d f.0).1 each.0),
    below_found t c us ds e each.1 f.1,
  )

  pub rising_found : (ts : List Template) (cs : List Cut) → RiseBy (λ t. t) ts → AreFound w ts cs → RiseBy template_of cs
  rising_found [] [] r f = tt
  rising_found [] (c ∷ cs) r f = absurd f
  rising_found (t ∷ ts) [] r f = absurd f
  rising_found (t ∷ ts) (c ∷ cs) r f = (below_found t c ts cs (cut_found w t c f.0).1 r.0 f.1, rising_found ts cs r.1 f.1)

-- ---- group k, whose templates are ts and whose units are cs

module _ (w : List Cut) (rising : RiseBy template_of w) (spelled : CutsAreSpelled w) (nodes : NodesAreCalled) (groups : List (List (List ℕ))) (are : AreGroups (program_of (entries_in w)) groups) where
  module _ (k : ℕ) (low : k < length groups) (ts : List Template) (cs : List Cut) (at : group_at groups k ≡ texts ts) (found : AreFound w ts cs) where
    -- a unit of the group stands in it
    pub in_group : (c : Cut) → Contains cs c → Contains (group_at groups k) (template_text (template_of c)) × Contains w c × (cut_of (template_of c) w ≡ Some c)
    in_group c m =
        let t : (t : Template) × Contains ts t × (cut_of t w ≡ Some c) = member_found w ts cs c found m in
        let f : Contains w c × (template_text t.0 ≡ template_text (template_of c)) = cut_found w t.0 c t.2 in (
          subst (λ xs. Contains xs (template_text (template_of c))) (sym at) (subst (λ x. Contains (texts ts) x) f.1 (map_contains template_text ts t.0 t.1)),
          f.0,
          sym (cut_same w t.0 (template_of c) f.1) ∙ t.2,
        )

    -- and back
    pub from_group : (t : Template) (d : Cut) → Contains (group_at groups k) (template_text t) → cut_of t w ≡ Some d → Contains cs d
    from_group t d m is =
        let u : (u : Template) × Contains ts u × (template_text u ≡ template_text t) = contains_map template_text ts (template_text t) (subst (λ xs. Contains xs (template_text t)) at m) in
        let r : (c : Cut) × Contains cs c × (cut_of u.0 w ≡ Some c) = found_member w ts cs u.0 found u.1 in
        let same : Some r.0 ≡ Some d = sym r.2 ∙ (cut_same w u.0 t u.2 ∙ is) in
        let e : r.0 ≡ d = cc in
        subst (λ c. Contains cs c) e r.1

    pub is_group : RiseBy (λ t. t) ts → IsGroup w cs
    is_group ordered = record {
      rising = rising_found w ts cs ordered found;
      there = λ c m. (in_group c m).2;
      together = λ c d m n. together_from w rising (template_of c) (template_of d) ((are.exact k (template_text (template_of c)) (template_text (template_of d)) low (in_group c m).0).0 (in_group d n).0);
      all = λ c d t m together is. from_group t d ((are.exact k (template_text (template_of c)) (template_text t) low (in_group c m).0).1 (together_to w rising (template_of c) t together)) is;
      spelled = λ c d t m n call same. spelled c d t (in_group c m).1 call (cut_same w t (template_of d) same ∙ (in_group d n).2);
    }

    -- what is called outside of the group is in one before it
    pub knows_calls : (known : Known) → KnowsGroups w groups k known → KnowsCalls w cs known
    knows_calls known knows = record {
      missing = λ c t m call none. knows.missing t none;
      outside = λ c t m call some apart. by_cut c t m call apart (cut_of t w) refl some;
    }
      where
        by_cut : (c : Cut) (t : Template) → Contains cs c → Contains (unit_nodes c.lines c.unit) t → (AreTogether w (template_of c) t → ⊥) → (o : Option Cut) → cut_of t w ≡ o → IsSome o
            → (p : Principal) × (known_of known (template_text t) ≡ Some p) × IsPrincipal w t p
        by_cut c t m call apart None is some = absurd (not_some Cut some)
        by_cut c t m call apart (Some d) is some =
            let g : Contains (group_at groups k) (template_text (template_of c)) × Contains w c × (cut_of (template_of c) w ≡ Some c) = in_group c m in
            let own : t ≡ template_of d = spelled c d t g.1 call is in
            let calls : reach.DoesCall (program w rising) (template_text (template_of c)) (template_text t) =
            subst (λ xs. Contains xs (template_text t)) (sym (called_is w rising (template_of c) ∙ ap (λ o. texts (called o)) g.2)) (nodes c.lines c.unit t call) in
            let h : (h : ℕ) × (h ≤ k) × Contains (group_at groups h) (template_text t) = are.order k (template_text (template_of c)) (template_text t) low g.0 calls (program_there w rising t d is) in
            let less : h.0 < k = before h.0 h.1 h.2 in
            let p : IsKnown known w d = knows.there d h.0 (ap (λ u. cut_of u w) (sym own) ∙ is) less (subst (λ u. Contains (group_at groups h.0) (template_text u)) own h.2) in
            (p.0, ap (λ u. known_of known (template_text u)) own ∙ p.1, subst (λ u. IsPrincipal w u p.0) (sym own) p.2)
          where
            before : (h : ℕ) → h ≤ k → Contains (group_at groups h) (template_text t) → h < k
            before h le m2 = by_place (cases_lt h k)
              where
                by_place : (h < k) ⊎ (k ≤ h) → h < k
                by_place (inl less) = less
                by_place (inr more) =
                    let e : h ≡ k = omega (arith, le, more) in
                    absurd (apart (together_from w rising (template_of c) t ((are.exact k (template_text (template_of c)) (template_text t) low (in_group c m).0).0 (subst (λ i. Contains (group_at groups i) (template_text t)) e m2))))
