-- Templates that lead to each other. Whether one leads to another is decided: over the units in turn, a way through the first of them is
-- one that does without it, or one to it and one from it.
use Rattle.std.proofs.Common.{◌≡◌, ◌∙◌, ◌⊎◌, inl, inr, ℕ, zero, suc, List, [], ◌∷◌, map, Option, Some, None, ap, sym, subst, refl}
use Rattle.std.specs.List.{Contains}
use Rattle.std.specs.Ordering.{match_ordering}
use Rattle.std.specs.declared.cmp.Ordering.{Ordering}
use Rattle.std.specs.declared.cmp.Ordering.TheVariants.{Less, Equal, Greater}
use Rattle.std.proofs.lemmas.Map.Lookups.{exact_bytes}
use Rattle.abc_num.specs.Text.{text_cmp}
use Rattle.abc_tree.specs.Templates.{template_text, template_cmp}
use Rattle.abc_tree.specs.declared.templates.Template.{Template}
use Rattle.abc_ground.specs.Groups.{Cut, cut_of, template_of, called, Way, LeadsTo, AreTogether}
use Rattle.abc_fewer.proofs.Among.{Decided, same_or, Texts, at_first, at_later, no_element, either, contains_map, map_contains}

-- templates that are written alike find the same
pub cut_same : (w : List Cut) (a b : Template) → template_text a ≡ template_text b → cut_of a w ≡ cut_of b w
cut_same [] a b e = refl
cut_same (x ∷ w) a b e = λ i. match_ordering (text_cmp (template_text x.unit.template) (e i)) (cut_same w a b e i) (Some x) None

pub cut_found : (w : List Cut) (t : Template) (c : Cut) → cut_of t w ≡ Some c → Contains w c × (template_text t ≡ template_text (template_of c))
cut_found [] t c e = absurd (cc)
cut_found (x ∷ w) t c e = by_order (template_cmp (template_of x) t) refl (cut_found w t c) e
  where
    by_order : (o : Ordering) → template_cmp (template_of x) t ≡ o → (cut_of t w ≡ Some c → Contains w c × (template_text t ≡ template_text (template_of c))) → match_ordering o (cut_of t w) (Some x) None ≡ Some c
        → Contains (x ∷ w) c × (template_text t ≡ template_text (template_of c))
    by_order Less is rest f = let r : Contains w c × (template_text t ≡ template_text (template_of c)) = rest f in (at_later x w c r.0, r.1)
    by_order Equal is rest f =
        let g : x ≡ c = cc in
        (at_first x c w g, sym (exact_bytes (template_text (template_of x)) (template_text t) is) ∙ ap (λ (y : Cut). template_text (template_of y)) g)
    by_order Greater is rest f = absurd (cc)

module _ (w : List Cut) where
  -- ---- ways one after the other

  way_from : (n : ℕ) (a b c : Template) → template_text a ≡ template_text b → Way w n b c → Way w n a c
  way_from zero a b c e h = e ∙ h
  way_from (suc n) a b c e h = (h.0, subst (λ o. Contains (called o) h.0) (sym (cut_same w a b e)) h.1, h.2)

  way_to : (n : ℕ) (a b c : Template) → template_text b ≡ template_text c → Way w n a b → Way w n a c
  way_to zero a b c e h = h ∙ e
  way_to (suc n) a b c e h = (h.0, h.1, way_to n h.0 b c e h.2)

  way_then : (n : ℕ) (a b : Template) (m : ℕ) (c : Template) → Way w n a b → Way w m b c → LeadsTo w a c
  way_then zero a b m c h k = (m, way_from m a b c h k)
  way_then (suc n) a b m c h k = let r = way_then n h.0 b m c h.2 k in (suc r.0, (h.0, h.1, r.1))

  pub leads_to_text : (a b c : Template) → template_text b ≡ template_text c → LeadsTo w a b → LeadsTo w a c
  leads_to_text a b c e l = (l.0, way_to l.0 a b c e l.1)

  pub leads_then : (a b c : Template) → LeadsTo w a b → LeadsTo w b c → LeadsTo w a c
  leads_then a b c h k = way_then h.0 a b k.0 c h.1 k.1

  pub leads_itself : (a : Template) → LeadsTo w a a
  leads_itself a = (zero, refl)

  -- its text is called
  abbrev pub IsCalled : Template → Template → Type 0
  IsCalled a b = Contains (map template_text (called (cut_of a w))) (template_text b)

  pub one_call : (a b : Template) → IsCalled a b → LeadsTo w a b
  one_call a b m = let t : (t : Template) × Contains (called (cut_of a w)) t × (template_text t ≡ template_text b) = contains_map template_text (called (cut_of a w)) (template_text b) m in (1, (t.0, t.1, t.2))

  pub together_itself : (a : Template) → AreTogether w a a
  together_itself a = (leads_itself a, leads_itself a)

  pub together_then : (a b c : Template) → AreTogether w a b → AreTogether w b c → AreTogether w a c
  together_then a b c h k = (leads_then a b c h.0 k.0, leads_then c b a k.1 h.1)

  -- ---- through some of the units

  -- it is written alike, or called, or there is a way through one of these
  abbrev Through : List Cut → Template → Template → Type 0
  Through [] a b = (template_text a ≡ template_text b) ⊎ (IsCalled a b)
  Through (x ∷ xs) a b = (Through xs a b) ⊎ ((Through xs a (template_of x)) × Through xs (template_of x) b)

  text_among : (ts : Texts) (s : List ℕ) → Decided (Contains ts s)
  text_among [] s = inr (no_element s)
  text_among (t ∷ ts) s = by_first (same_or t s) (text_among ts s)
    where
      by_first : Decided (t ≡ s) → Decided (Contains ts s) → Decided (Contains (t ∷ ts) s)
      by_first (inl e) rest = inl (at_first t s ts e)
      by_first (inr n) (inl m) = inl (at_later t ts s m)
      by_first (inr n) (inr none) = inr (λ c. by_place (either t ts s c))
        where
          by_place : (t ≡ s) ⊎ Contains ts s → ⊥
          by_place (inl e) = n e
          by_place (inr m) = none m

  one_of : {P Q : Type 0} → Decided P → Decided Q → Decided (P ⊎ Q)
  one_of (inl p) q = inl (inl p)
  one_of (inr n) (inl q) = inl (inr q)
  one_of {P = P} {Q = Q} (inr n) (inr m) = inr neither
    where
      neither : P ⊎ Q → ⊥
      neither (inl p) = n p
      neither (inr q) = m q

  both_of : {P Q : Type 0} → Decided P → Decided Q → Decided (P × Q)
  both_of (inl p) (inl q) = inl (p, q)
  both_of (inl p) (inr m) = inr (λ h. m h.1)
  both_of (inr n) q = inr (λ h. n h.0)

  through_decided : (xs : List Cut) (a b : Template) → Decided (Through xs a b)
  through_decided [] a b = one_of (same_or (template_text a) (template_text b)) (text_among (map template_text (called (cut_of a w))) (template_text b))
  through_decided (x ∷ xs) a b = one_of (through_decided xs a b) (both_of (through_decided xs a (template_of x)) (through_decided xs (template_of x) b))

  through_leads : (xs : List Cut) (a b : Template) → Through xs a b → LeadsTo w a b
  through_leads [] a b (inl e) = (zero, e)
  through_leads [] a b (inr m) = one_call a b m
  through_leads (x ∷ xs) a b (inl h) = through_leads xs a b h
  through_leads (x ∷ xs) a b (inr h) = leads_then a (template_of x) b (through_leads xs a (template_of x) h.0) (through_leads xs (template_of x) b h.1)

  -- ---- each way is one through the units

  at_once : (xs : List Cut) (a b : Template) → (template_text a ≡ template_text b) ⊎ (IsCalled a b) → Through xs a b
  at_once [] a b h = h
  at_once (x ∷ xs) a b h = inl (at_once xs a b h)

  through_from : (xs : List Cut) (a b c : Template) → template_text a ≡ template_text b → Through xs b c → Through xs a c
  through_from [] a b c e (inl f) = inl (e ∙ f)
  through_from [] a b c e (inr m) = inr (subst (λ o. Contains (map template_text (called o)) (template_text c)) (sym (cut_same w a b e)) m)
  through_from (x ∷ xs) a b c e (inl h) = inl (through_from xs a b c e h)
  through_from (x ∷ xs) a b c e (inr h) = inr (through_from xs a b (template_of x) e h.0, h.1)

  through_to : (xs : List Cut) (a b c : Template) → template_text b ≡ template_text c → Through xs a b → Through xs a c
  through_to [] a b c e (inl f) = inl (f ∙ e)
  through_to [] a b c e (inr m) = inr (subst (λ s. Contains (map template_text (called (cut_of a w))) s) e m)
  through_to (x ∷ xs) a b c e (inl h) = inl (through_to xs a b c e h)
  through_to (x ∷ xs) a b c e (inr h) = inr (h.0, through_to xs (template_of x) b c e h.1)

  -- one of the units stands where two ways meet
  to_first : (x : Cut) (xs : List Cut) (a : Template) → Through (x ∷ xs) a (template_of x) → Through xs a (template_of x)
  to_first x xs a (inl h) = h
  to_first x xs a (inr h) = h.0

  from_first : (x : Cut) (xs : List Cut) (b : Template) → Through (x ∷ xs) (template_of x) b → Through xs (template_of x) b
  from_first x xs b (inl h) = h
  from_first x xs b (inr h) = h.1

  through_then : (xs : List Cut) (d : Cut) → Contains xs d → (a b : Template) → Through xs a (template_of d) → Through xs (template_of d) b → Through xs a b
  through_then [] d m a b h k = absurd (no_element d m)
  through_then (x ∷ xs) d m a b h k = by_place (either x xs d m) (through_then xs d) h k
    where
      by_ways : ((e f : Template) → Through xs e (template_of d) → Through xs (template_of d) f → Through xs e f) → Through (x ∷ xs) a (template_of d) → Through (x ∷ xs) (template_of d) b → Through (x ∷ xs) a b
      by_ways join (inl h) (inl k) = inl (join a b h k)
      by_ways join (inl h) (inr k) = inr (join a (template_of x) h k.0, k.1)
      by_ways join (inr h) (inl k) = inr (h.0, join (template_of x) b h.1 k)
      by_ways join (inr h) (inr k) = inr (h.0, k.1)

      by_place : (x ≡ d) ⊎ Contains xs d → (Contains xs d → (e f : Template) → Through xs e (template_of d) → Through xs (template_of d) f → Through xs e f) → Through (x ∷ xs) a (template_of d) → Through (x ∷ xs) (template_of d) b → Through (x ∷ xs) a b
      by_place (inl e) join h k =
          inr (to_first x xs a (subst (λ (y : Cut). Through (x ∷ xs) a (template_of y)) (sym e) h), from_first x xs b (subst (λ (y : Cut). Through (x ∷ xs) (template_of y) b) (sym e) k))
      by_place (inr m) join h k = by_ways (join m) h k

  way_through : (n : ℕ) (a b : Template) → Way w n a b → Through w a b
  way_through zero a b e = at_once w a b (inl e)
  way_through (suc n) a b (c, at, way) = by_cut (cut_of c w) refl n way (way_through n c b way)
    where
      here : Through w a c
      here = at_once w a c (inr (map_contains template_text (called (cut_of a w)) c at))

      by_cut : (o : Option Cut) → cut_of c w ≡ o → (k : ℕ) → Way w k c b → Through w c b → Through w a b
      by_cut None is zero e rest = through_to w a c b e here
      by_cut None is (suc k) h rest = absurd (no_element h.0 (subst (λ (o : Option Cut). Contains (called o) h.0) is h.1))
      by_cut (Some d) is k h rest =
          let found : Contains w d × (template_text c ≡ template_text (template_of d)) = cut_found w c d is in
          through_then w d found.0 a b (through_to w a c (template_of d) found.1 here) (through_from w (template_of d) c b (sym found.1) rest)

  leads_decided : (a b : Template) → Decided (LeadsTo w a b)
  leads_decided a b = by_way (through_decided w a b)
    where
      by_way : Decided (Through w a b) → Decided (LeadsTo w a b)
      by_way (inl h) = inl (through_leads w a b h)
      by_way (inr n) = inr (λ l. n (way_through l.0 a b l.1))

  -- two templates are of one group, or not
  pub together_decided : (a b : Template) → Decided (AreTogether w a b)
  together_decided a b = both_of (leads_decided a b) (leads_decided b a)
