-- The least missing template that is computed is the least one that is missing.
use Rattle.std.proofs.Common.{◌≡◌, ◌≢◌, inl, inr, ℕ, Bool, true, false, ◌&&◌, List, [], ◌∷◌, map, Option, Some, None, is_none, refl, sym, ap, subst, ◌∙◌}
use Rattle.std.specs.List.{list_any}
use Rattle.std.specs.declared.cmp.Ordering.{Ordering}
use Rattle.std.specs.declared.cmp.Ordering.TheVariants.{Less, Equal, Greater}
use Rattle.std.specs.Ordering.{match_ordering, ordering_reverse}
use Rattle.std.specs.Cmp.Lexicographic.{nat_list_cmp_total}
use Rattle.std.proofs.lemmas.Map.Views.{any-filter_same}
use Rattle.abc_num.specs.Text.{text_cmp, text_eq}
use Rattle.abc_num.proofs.Texts.{text_eq-Decides}
use Rattle.abc_tree.specs.Lists.{flat}
use Rattle.abc_tree.specs.declared.commands.Unit.{Unit as Routine}
use Rattle.std.specs.Prelude.{IfNone, IfSome}
use Rattle.abc_tree.specs.Templates.{template_text}
use Rattle.abc_tree.specs.declared.templates.Template.{Template}
use Rattle.abc_groups.specs.Program.{IsFirstMissing, NoneIsMissing, texts}
use Rattle.abc_groups.proofs.Texts.{itself, one_text, eq_yes}
use Rattle.abc_outcome.specs.Missing.{program, reached, lesser, least, missing_among, first_missing, leads_to}
use Rattle.abc_outcome.proofs.Finding.{or_cases, or_left, or_right, and_both, and_first, and_second, any_flat}
use Rattle.abc_outcome.proofs.Reached.{from_exactly}

turned : (s t : List ℕ) → text_cmp s t ≡ Greater → text_cmp t s ≡ Less
turned s t h = nat_list_cmp_total.antisymm t s ∙ ap ordering_reverse h

not_itself : (s : List ℕ) → text_cmp s s ≢ Greater
not_itself s e = let f : Equal ≡ Greater = sym (itself s) ∙ e in cc

not_more : (s t : List ℕ) → text_cmp s t ≡ Less → text_cmp s t ≢ Greater
not_more s t less e = let f : Less ≡ Greater = sym less ∙ e in cc

-- what is no more than a text that is no more than a third is no more than the third
no_more : (a b c : List ℕ) → text_cmp a b ≢ Greater → text_cmp b c ≢ Greater → text_cmp a c ≢ Greater
no_more a b c p q = first (text_cmp a b) refl
  where
    second : (o : Ordering) → text_cmp a b ≡ Less → text_cmp b c ≡ o → text_cmp a c ≢ Greater
    second Less less e = not_more a c (nat_list_cmp_total.trans a b c less e)
    second Equal less e = subst (λ (z : List ℕ). text_cmp a z ≢ Greater) (one_text b c e) p
    second Greater less e = absurd (q e)

    first : (o : Ordering) → text_cmp a b ≡ o → text_cmp a c ≢ Greater
    first Less e = second (text_cmp b c) e refl
    first Equal e = subst (λ (z : List ℕ). text_cmp z c ≢ Greater) (sym (one_text a b e)) q
    first Greater e = absurd (p e)

no_two : (a b : List ℕ) → text_cmp a b ≢ Greater → text_cmp b a ≢ Greater → a ≡ b
no_two a b p q = by_order (text_cmp a b) refl
  where
    by_order : (o : Ordering) → text_cmp a b ≡ o → a ≡ b
    by_order Less e = absurd (q (nat_list_cmp_total.antisymm b a ∙ ap ordering_reverse e))
    by_order Equal e = one_text a b e
    by_order Greater e = absurd (p e)

-- ---- the least of some texts

record IsLeast (ts : List (List ℕ)) (t : List ℕ) : Type 0 where
  pub among : list_any (text_eq t) ts ≡ true
  pub low : (u : List ℕ) → list_any (text_eq u) ts ≡ true → text_cmp t u ≢ Greater

same_low : (t u : List ℕ) → text_eq u t ≡ true → text_cmp t u ≢ Greater
same_low t u e = subst (λ (z : List ℕ). text_cmp t z ≢ Greater) (sym ((text_eq-Decides u t).0 e)) (not_itself t)

first_least : (t m : List ℕ) (ts : List (List ℕ)) → text_cmp t m ≢ Greater → IsLeast ts m → IsLeast (t ∷ ts) t
first_least t m ts low l = record {
  among = or_left (text_eq t t) (list_any (text_eq t) ts) (eq_yes t t refl);
  low = λ u e. elim (or_cases (text_eq u t) (list_any (text_eq u) ts) e) [
    | inl same ↦ same_low t u same
    | inr more ↦ no_more t m u low (l.low u more)
  ];
}

later_least : (t m : List ℕ) (ts : List (List ℕ)) → text_cmp t m ≡ Greater → IsLeast ts m → IsLeast (t ∷ ts) m
later_least t m ts more l = record {
  among = or_right (text_eq m t) (list_any (text_eq m) ts) l.among;
  low = λ u e. elim (or_cases (text_eq u t) (list_any (text_eq u) ts) e) [
    | inl same ↦ subst (λ (z : List ℕ). text_cmp m z ≢ Greater) (sym ((text_eq-Decides u t).0 same)) (not_more m t (turned t m more))
    | inr rest ↦ l.low u rest
  ];
}

next_least : (t m : List ℕ) (ts : List (List ℕ)) → IsLeast ts m → IsLeast (t ∷ ts) (match_ordering (text_cmp t m) t t m)
next_least t m ts l = by_order (text_cmp t m) refl
  where
    by_order : (o : Ordering) → text_cmp t m ≡ o → IsLeast (t ∷ ts) (match_ordering o t t m)
    by_order Less e = first_least t m ts (not_more t m e) l
    by_order Equal e = first_least t m ts (λ g. let f : Equal ≡ Greater = sym e ∙ g in cc) l
    by_order Greater e = later_least t m ts e l

least_is : (t : List ℕ) (ts : List (List ℕ)) → IsLeast (t ∷ ts) (lesser t (least ts))
least_is t [] = record {
  among = or_left (text_eq t t) false (eq_yes t t refl);
  low = λ u e. elim (or_cases (text_eq u t) false e) [
    | inl same ↦ same_low t u same
    | inr never ↦ absurd cc
  ];
}
least_is t (u ∷ us) = next_least t (lesser u (least us)) (u ∷ us) (least_is u us)

-- ---- the least missing one

none_is : {X : Type 0} (o : Option X) → is_none o ≡ true → o ≡ None
none_is None e = refl
none_is (Some x) e = absurd cc

is_none_of : {X : Type 0} (o : Option X) → o ≡ None → is_none o ≡ true
is_none_of o e = ap is_none e

-- which templates are missing and reached
abbrev Tells : List Routine → List (List ℕ) → List (List ℕ) → Type 0
Tells units from ts = (u : List ℕ) → list_any (text_eq u) ts ≡ (is_none (program units u) && list_any (leads_to units u) from)

tells : (units : List Routine) (from : List (List ℕ)) → Tells units from (missing_among units (flat (map (reached units) from)))
unfolding leads_to
tells units from u =
    any-filter_same (text_eq u) (λ t. is_none (program units t)) (is_none (program units u))
    (λ k same. ap (λ (z : List ℕ). is_none (program units z)) (sym ((text_eq-Decides u k).0 same))) (flat (map (reached units) from))
    ∙ ap (λ b. is_none (program units u) && b) (any_flat (text_eq u) (reached units) from)

first_of : (units : List Routine) (from : List (List ℕ)) (t : List ℕ) (ts : List (List ℕ)) → Tells units from (t ∷ ts) → IsFirstMissing (program units) from (lesser t (least ts))
first_of units from t ts all =
    let m = lesser t (least ts) in
    let l : IsLeast (t ∷ ts) m = least_is t ts in
    let there : (is_none (program units m) && list_any (leads_to units m) from) ≡ true = sym (all m) ∙ l.among in
    record {
      missing = none_is (program units m) (and_first (is_none (program units m)) (list_any (leads_to units m) from) there);
      reached = (from_exactly units from m).0 (and_second (is_none (program units m)) (list_any (leads_to units m) from) there);
      least = λ u none is. l.low u (all u ∙ and_both (is_none (program units u)) (list_any (leads_to units u) from) (is_none_of (program units u) none) ((from_exactly units from u).1 is));
    }

none_of : (units : List Routine) (from : List (List ℕ)) → Tells units from [] → NoneIsMissing (program units) from
none_of units from all u is none =
    let e : false ≡ true = all u ∙ and_both (is_none (program units u)) (list_any (leads_to units u) from) (is_none_of (program units u) none) ((from_exactly units from u).1 is) in cc

one_first : (units : List Routine) (from : List (List ℕ)) (s t : List ℕ) → IsFirstMissing (program units) from s → IsFirstMissing (program units) from t → s ≡ t
one_first units from s t p q = no_two s t (p.least t q.missing q.reached) (q.least s p.missing p.reached)

-- what is found by calls is what is computed
pub first_computed : (units : List Routine) (from : List (List ℕ)) (t : List ℕ) → IsFirstMissing (program units) from t → first_missing units from ≡ Some t
unfolding first_missing
first_computed units from t f = by_list (missing_among units (flat (map (reached units) from))) (tells units from)
  where
    by_list : (ts : List (List ℕ)) → Tells units from ts → least ts ≡ Some t
    by_list [] all = absurd (none_of units from all t f.reached f.missing)
    by_list (s ∷ ts) all = ap (λ (z : List ℕ). Some z) (one_first units from (lesser s (least ts)) t (first_of units from s ts all) f)

pub none_computed : (units : List Routine) (from : List (List ℕ)) → NoneIsMissing (program units) from → first_missing units from ≡ None
unfolding first_missing
none_computed units from none = by_list (missing_among units (flat (map (reached units) from))) (tells units from)
  where
    by_list : (ts : List (List ℕ)) → Tells units from ts → least ts ≡ None
    by_list [] all = refl
    by_list (s ∷ ts) all = let f = first_of units from s ts all in absurd (none (lesser s (least ts)) f.reached f.missing)

-- and the other way
pub computed_first : (units : List Routine) (from : List (List ℕ)) (t : List ℕ) → first_missing units from ≡ Some t → IsFirstMissing (program units) from t
unfolding first_missing
computed_first units from t e = by_list (missing_among units (flat (map (reached units) from))) (tells units from) e
  where
    same : {x y : List ℕ} → (let s : Option (List ℕ) = Some x in s ≡ Some y) → x ≡ y
    same e = cc

    by_list : (ts : List (List ℕ)) → Tells units from ts → least ts ≡ Some t → IsFirstMissing (program units) from t
    by_list [] all e = absurd cc
    by_list (s ∷ ts) all e = subst (IsFirstMissing (program units) from) (same e) (first_of units from s ts all)

pub computed_none : (units : List Routine) (from : List (List ℕ)) → first_missing units from ≡ None → NoneIsMissing (program units) from
unfolding first_missing
computed_none units from e = by_list (missing_among units (flat (map (reached units) from))) (tells units from) e
  where
    by_list : (ts : List (List ℕ)) → Tells units from ts → least ts ≡ None → NoneIsMissing (program units) from
    by_list [] all e = none_of units from all
    by_list (s ∷ ts) all e = absurd cc

-- what a search finds is what is computed
pub first_told : (units : List Routine) (from : List Template) (names : List (List ℕ)) → texts from ≡ names → (found : Option Template) (t : Template) → found ≡ Some t
    → IfSome found (λ t. IsFirstMissing (program units) (texts from) (template_text t)) → first_missing units names ≡ Some (template_text t)
first_told units from names same found t is all =
    let one : IfSome (Some t) (λ t. IsFirstMissing (program units) (texts from) (template_text t)) = subst (λ (o : Option Template). IfSome o (λ t. IsFirstMissing (program units) (texts from) (template_text t))) is all in
    first_computed units names (template_text t) (subst (λ (names : List (List ℕ)). IsFirstMissing (program units) names (template_text t)) same one)

pub none_told : (units : List Routine) (from : List Template) (names : List (List ℕ)) → texts from ≡ names → (found : Option Template) → found ≡ None
    → IfNone found (NoneIsMissing (program units) (texts from)) → first_missing units names ≡ None
none_told units from names same found is all =
    let none : NoneIsMissing (program units) (texts from) = none_in found is all in none_computed units names (subst (NoneIsMissing (program units)) same none)
  where
    none_in : (o : Option Template) → o ≡ None → IfNone o (NoneIsMissing (program units) (texts from)) → NoneIsMissing (program units) (texts from)
    none_in None e n = n
    none_in (Some t) e n = absurd cc
