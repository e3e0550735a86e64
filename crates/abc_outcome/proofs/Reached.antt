-- What the computed walk reaches is what calls lead to.
use Rattle.std.proofs.Common.{◌≡◌, ◌⊎◌, inl, inr, ◌<◌, ◌≤◌, ℕ, zero, suc, Bool, true, false, not, ◌||◌, List, [], ◌∷◌, length, map, filter, Option, Some, None, Contains, Decides, if◌then◌else◌, cond, refl, sym, ap, subst, ◌∙◌, arith}
use Rattle.std.specs.List.{list_any}
use Rattle.std.proofs.lemmas.List.{length-map}
use Rattle.std.proofs.lemmas.Map.Views.{any-filter_same}
use Rattle.abc_num.specs.Text.{text_eq}
use Rattle.abc_num.proofs.Texts.{text_eq-Decides}
use Rattle.abc_tree.specs.Lists.{flat}
use Rattle.abc_tree.specs.Templates.{template_text}
use Rattle.abc_tree.specs.declared.commands.Unit.{Unit as Routine}
use Rattle.abc_groups.specs.Reach.{Way, Leads, IsFrom}
use Rattle.abc_groups.specs.Program.{Program, called, if_any, entry_of, texts}
use Rattle.abc_groups.proofs.Texts.{eq_yes}
use Rattle.abc_outcome.specs.Missing.{program, without, reached_within, reached, leads_to}
use Rattle.abc_outcome.proofs.Finding.{or_cases, or_left, or_right, any_of, found_any, any_flat}

not_in_none : {X : Type 0} (x : X) → Contains [] x → ⊥
not_in_none x c = omega (arith, c.1)

called_other : (p : Program) (t a : List ℕ) → text_eq t a ≡ false → called (without t p) a ≡ called p a
called_other p t a e = ap (λ b. if_any (if b then None else p a)) e

called_itself : (p : Program) (t a : List ℕ) → text_eq t a ≡ true → called (without t p) a ≡ []
called_itself p t a e = ap (λ b. if_any (if b then None else p a)) e

-- without a unit there are no further ways
calls_fewer : (p : Program) (t a b : List ℕ) → Contains (called (without t p) a) b → Contains (called p a) b
calls_fewer p t a b c = by_case (text_eq t a) refl
  where
    by_case : (x : Bool) → text_eq t a ≡ x → Contains (called p a) b
    by_case true e = absurd (not_in_none b (subst (λ (l : List (List ℕ)). Contains l b) (called_itself p t a e) c))
    by_case false e = subst (λ (l : List (List ℕ)). Contains l b) (called_other p t a e) c

way_fewer : (p : Program) (t : List ℕ) (n : ℕ) (a b : List ℕ) → Way (called (without t p)) n a b → Way (called p) n a b
way_fewer p t zero a b e = e
way_fewer p t (suc n) a b (c, d, w) = (c, calls_fewer p t a c d, way_fewer p t n c b w)

-- what the walk reaches, calls lead to
pub reached_leads : (n : ℕ) (p : Program) (t x : List ℕ) → list_any (text_eq x) (reached_within n p t) ≡ true → Leads (called p) t x
reached_leads zero p t x e = elim (or_cases (text_eq x t) false e) [
  | inl same ↦ (zero, sym ((text_eq-Decides x t).0 same))
  | inr never ↦ absurd cc
]
reached_leads (suc n) p t x e = elim (or_cases (text_eq x t) (list_any (text_eq x) (flat (map (reached_within n (without t p)) (called p t)))) e) [
  | inl same ↦ (zero, sym ((text_eq-Decides x t).0 same))
  | inr more ↦
      let r = found_any (λ c. list_any (text_eq x) (reached_within n (without t p) c)) (called p t) (sym (any_flat (text_eq x) (reached_within n (without t p)) (called p t)) ∙ more) in
      let w = reached_leads n (without t p) r.0 x r.2 in (suc w.0, (r.0, r.1, way_fewer p t w.0 r.0 x w.1))
]

-- from where a way passes a unit for the last time, it goes on without it
abbrev Passed : Program → List ℕ → List ℕ → List ℕ → Type 0
Passed p t a x = Leads (called (without t p)) a x ⊎ ((c : List ℕ) × Contains (called p t) c × Leads (called (without t p)) c x)

last_pass : (p : Program) (t : List ℕ) (n : ℕ) (a x : List ℕ) → Way (called p) n a x → Passed p t a x
last_pass p t zero a x e = inl (zero, e)
last_pass p t (suc n) a x (b, d, w) = elim (last_pass p t n b x w) [
  | inl l ↦ by_case (text_eq t a) refl l
  | inr r ↦ inr r
]
  where
    by_case : (y : Bool) → text_eq t a ≡ y → Leads (called (without t p)) b x → Passed p t a x
    by_case true e l = inr (b, subst (λ (s : List ℕ). Contains (called p s) b) (sym ((text_eq-Decides t a).0 e)) d, l)
    by_case false e l = inl (suc l.0, (b, subst (λ (s : List (List ℕ)). Contains s b) (sym (called_other p t a e)) d, l.1))

-- ---- the units that are left

abbrev Lists : Program → List (List ℕ) → Type 0
Lists p ks = (x : List ℕ) → (p x ≡ None → ⊥) → list_any (text_eq x) ks ≡ true

abbrev but_for : List ℕ → List (List ℕ) → List (List ℕ)
but_for t ks = filter (λ k. not (text_eq t k)) ks

no_more_left : (t : List ℕ) (ks : List (List ℕ)) → length (but_for t ks) ≤ length ks
no_more_left t [] = omega arith
no_more_left t (k ∷ ks) = by_case (text_eq t k) (no_more_left t ks)
  where
    by_case : (b : Bool) → length (but_for t ks) ≤ length ks → length (cond (not b) (k ∷ but_for t ks) (but_for t ks)) ≤ length (k ∷ ks)
    by_case true le = omega (arith, le)
    by_case false le = omega (arith, le)

fewer_left : (t : List ℕ) (ks : List (List ℕ)) → list_any (text_eq t) ks ≡ true → length (but_for t ks) < length ks
fewer_left t [] e = absurd cc
fewer_left t (k ∷ ks) e = by_case (text_eq t k) e (fewer_left t ks)
  where
    by_case : (b : Bool) → (b || list_any (text_eq t) ks) ≡ true → (list_any (text_eq t) ks ≡ true → length (but_for t ks) < length ks)
        → length (cond (not b) (k ∷ but_for t ks) (but_for t ks)) < length (k ∷ ks)
    by_case true e more = omega (arith, no_more_left t ks)
    by_case false e more = omega (arith, more e)

others_left : (t x : List ℕ) (ks : List (List ℕ)) → text_eq t x ≡ false → list_any (text_eq x) ks ≡ true → list_any (text_eq x) (but_for t ks) ≡ true
others_left t x ks other e =
    any-filter_same (text_eq x) (λ k. not (text_eq t k)) true
    (λ k same. ap (λ (s : List ℕ). not (text_eq t s)) (sym ((text_eq-Decides x k).0 same)) ∙ ap not other) ks ∙ e

lists_left : (p : Program) (t : List ℕ) (ks : List (List ℕ)) → Lists p ks → Lists (without t p) (but_for t ks)
lists_left p t ks all x there = by_case (text_eq t x) refl
  where
    by_case : (b : Bool) → text_eq t x ≡ b → list_any (text_eq x) (but_for t ks) ≡ true
    by_case true e = absurd (there (ap (λ b. if b then None else p x) e))
    by_case false e = others_left t x ks e (all x (λ none. there (ap (λ b. if b then None else p x) e ∙ none)))

calls_some : (p : Program) (t c : List ℕ) → Contains (called p t) c → p t ≡ None → ⊥
calls_some p t c d none = not_in_none c (subst (λ (o : Option (List (List ℕ))). Contains (if_any o) c) none d)

-- what calls lead to, the walk reaches
pub leads_reached : (n : ℕ) (p : Program) (ks : List (List ℕ)) → Lists p ks → length ks ≤ n → (t x : List ℕ) → Leads (called p) t x → list_any (text_eq x) (reached_within n p t) ≡ true
leads_reached zero p ks all le t x (zero, w) = or_left (text_eq x t) false (eq_yes x t (sym w))
leads_reached zero p ks all le t x (suc m, (c, d, w)) = absurd (none_listed ks le (all t (calls_some p t c d)))
  where
    none_listed : (ks : List (List ℕ)) → length ks ≤ 0 → list_any (text_eq t) ks ≡ true → ⊥
    none_listed [] le e = cc
    none_listed (k ∷ ks) le e = omega (arith, le)
leads_reached (suc n) p ks all le t x (m, w) = elim (last_pass p t m t x w) [
  | inl l ↦ or_left (text_eq x t) (list_any (text_eq x) (flat (map (reached_within n (without t p)) (called p t)))) (at_start l)
  | inr r ↦ or_right (text_eq x t) (list_any (text_eq x) (flat (map (reached_within n (without t p)) (called p t))))
      (any_flat (text_eq x) (reached_within n (without t p)) (called p t)
      ∙ any_of (λ c. list_any (text_eq x) (reached_within n (without t p) c)) (called p t) r.0 r.1
      (leads_reached n (without t p) (but_for t ks) (lists_left p t ks all) (omega (arith, le, fewer_left t ks (all t (calls_some p t r.0 r.1)))) r.0 x r.2))
]
  where
    at_start : Leads (called (without t p)) t x → text_eq x t ≡ true
    at_start (zero, e) = eq_yes x t (sym e)
    at_start (suc k, (c, d, v)) = absurd (not_in_none c (subst (λ (s : List (List ℕ)). Contains s c) (called_itself p t t (eq_yes t t refl)) d))

-- ---- over units

abbrev names : List Routine → List (List ℕ)
names units = map (λ u. template_text u.template) units

units_listed : (units : List Routine) → Lists (program units) (names units)
units_listed [] x there = absurd (there refl)
units_listed (u ∷ us) x there = by_case (text_eq x (template_text u.template)) refl (units_listed us x)
  where
    by_case : (b : Bool) → text_eq x (template_text u.template) ≡ b → ((program us x ≡ None → ⊥) → list_any (text_eq x) (names us) ≡ true)
        → (text_eq x (template_text u.template) || list_any (text_eq x) (names us)) ≡ true
    by_case true e more = or_left (text_eq x (template_text u.template)) (list_any (text_eq x) (names us)) e
    by_case false e more = or_right (text_eq x (template_text u.template)) (list_any (text_eq x) (names us))
        (more (λ none. there (ap (λ b. if b then Some (texts (entry_of u).called) else program us x) e ∙ none)))

pub leads_exactly : (units : List Routine) (s t : List ℕ) → Decides (leads_to units t s) (Leads (called (program units)) s t)
unfolding leads_to reached
leads_exactly units s t = (
  λ e. reached_leads (length units) (program units) s t e,
  λ l. leads_reached (length units) (program units) (names units) (units_listed units) (omega (arith, length-map units (λ u. template_text u.template))) s t l,
)

-- whether a template is one of these or is reached from one of them
pub from_exactly : (units : List Routine) (from : List (List ℕ)) (t : List ℕ) → Decides (list_any (leads_to units t) from) (IsFrom (called (program units)) from t)
from_exactly units from t = (
  λ e. let r = found_any (leads_to units t) from e in (r.0, r.1, (leads_exactly units r.0 t).0 r.2),
  λ f. any_of (leads_to units t) from f.0 f.1 ((leads_exactly units f.0 t).1 f.2),
)
