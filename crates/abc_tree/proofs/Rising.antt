-- Elements in the order of their templates: what a search finds, and what an edit there does.
use Rattle.std.proofs.Common.{◌≡◌, ◌<◌, ◌≤◌, ℕ, zero, suc, Bool, true, false, List, [], ◌∷◌, ◌+◌, length, Some, None, slice_get, set, if◌then◌else◌, ⊎_elim, refl, sym, ◌∙◌, ap, subst, arith}
use Rattle.std.specs.Prelude.{slice_index_or}
use Rattle.std.proofs.lemmas.Bool.{cases_lt}
use Rattle.std.proofs.lemmas.Option.{slice_get_read}
use Rattle.std.specs.List.{AllByRecursion, AllWithin, insert, remove}
use Rattle.std.specs.declared.cmp.Ordering.{Ordering}
use Rattle.std.specs.declared.cmp.Ordering.TheVariants.{Less, Equal, Greater}
use Rattle.std.specs.Ordering.{match_ordering, ordering_reverse}
use Rattle.std.specs.Cmp.Lexicographic.{nat_list_cmp_total}
use Rattle.abc_num.proofs.Parts.{each_weaker}
use Rattle.abc_tree.specs.Templates.{template_text, template_cmp}
use Rattle.abc_tree.specs.Ordered.{RiseBy, found_by, placed_by, without_by}
use Rattle.abc_tree.specs.inner.Search.{IsAt, IsGap}
use Rattle.abc_tree.specs.declared.templates.Template.{Template}

-- the order of templates is one of their texts
turned : (a b : Template) → template_cmp a b ≡ ordering_reverse (template_cmp b a)
turned a b = nat_list_cmp_total.antisymm (template_text a) (template_text b)

below_then : (a b c : Template) → template_cmp a b ≡ Less → template_cmp b c ≡ Less → template_cmp a c ≡ Less
below_then a b c = nat_list_cmp_total.trans (template_text a) (template_text b) (template_text c)

same_then : (a b c : Template) → template_cmp a b ≡ Equal → template_cmp a c ≡ template_cmp b c
same_then a b c = nat_list_cmp_total.congr (template_text a) (template_text b) (template_text c)

turned_more : (a b : Template) → template_cmp a b ≡ Greater → template_cmp b a ≡ Less
turned_more a b is = turned b a ∙ ap ordering_reverse is

below_same : (a b c : Template) → template_cmp a b ≡ Less → template_cmp b c ≡ Equal → template_cmp a c ≡ Less
below_same a b c less same = turned a c ∙ ap ordering_reverse (sym (same_then b c a same) ∙ turned b a ∙ ap ordering_reverse less)

-- what holds of each holds of the one at a place
at_place : {X : Type 0} (P : X → Type 0) (xs : List X) (i : ℕ) (d : X) → AllByRecursion P xs → i < length xs → P (slice_index_or xs i d)
at_place P [] i d each lt = absurd (omega (arith, lt))
at_place P (x ∷ xs) zero d each lt = each.0
at_place P (x ∷ xs) (suc i) d each lt = at_place P xs i d each.1 (omega (arith, lt))

-- what was read at a place
pub read_at : {X : Type 0} (xs : List X) (i : ℕ) (x : X) → i < length xs → x ≡ slice_index_or xs i x → Some x ≡ slice_get xs i
read_at xs i x lt is = sym (slice_get_read xs (length xs) i x refl lt is)

module _ {X : Type 0} (key : X → Template) where
  -- one element further
  next_at : (x : X) (xs : List X) (t : Template) (i : ℕ) → IsAt key (x ∷ xs) t (suc i) → IsAt key xs t i
  next_at x xs t i at = record { inside = omega (arith, at.inside); same = at.same }

  next_gap : (x : X) (xs : List X) (t : Template) (i : ℕ) → IsGap key (x ∷ xs) t (suc i) → IsGap key xs t i
  next_gap x xs t i gap = record {
    inside = omega (arith, gap.inside);
    before = λ k d low high. gap.before (suc k) d (omega arith) (omega (arith, high));
    behind = λ k d low high. gap.behind (suc k) d (omega (arith, low)) (omega (arith, high));
  }

  before_at : (x : X) (xs : List X) (t : Template) (i : ℕ) → RiseBy key (x ∷ xs) → IsAt key (x ∷ xs) t (suc i) → template_cmp (key x) t ≡ Less
  before_at x xs t i rising at = below_same (key x) (key (slice_index_or xs i x)) t (at_place _ xs i x rising.0 (omega (arith, at.inside))) (at.same x)

  pub found_at : (xs : List X) (t : Template) (i : ℕ) → RiseBy key xs → IsAt key xs t i → found_by key t xs ≡ slice_get xs i
  found_at [] t i rising at = absurd (omega (arith, at.inside))
  found_at (x ∷ xs) t zero rising at = ap (λ o. match_ordering o (found_by key t xs) (Some x) None) (at.same x)
  found_at (x ∷ xs) t (suc i) rising at = ap (λ o. match_ordering o (found_by key t xs) (Some x) None) (before_at x xs t i rising at) ∙ found_at xs t i rising.1 (next_at x xs t i at)

  -- the newer takes the place of the older
  pub newer_at : (xs : List X) (new : X) (i : ℕ) → RiseBy key xs → IsAt key xs (key new) i → placed_by key true new xs ≡ set xs i new
  newer_at [] new i rising at = absurd (omega (arith, at.inside))
  newer_at (x ∷ xs) new zero rising at = ap (λ o. match_ordering o (x ∷ placed_by key true new xs) (new ∷ xs) (new ∷ x ∷ xs)) (at.same x)
  newer_at (x ∷ xs) new (suc i) rising at =
      ap (λ o. match_ordering o (x ∷ placed_by key true new xs) (new ∷ xs) (new ∷ x ∷ xs)) (before_at x xs (key new) i rising at) ∙ ap (λ (l : List X). x ∷ l) (newer_at xs new i rising.1 (next_at x xs (key new) i at))

  -- the older stays
  pub older_at : (xs : List X) (new : X) (i : ℕ) → RiseBy key xs → IsAt key xs (key new) i → placed_by key false new xs ≡ xs
  older_at [] new i rising at = absurd (omega (arith, at.inside))
  older_at (x ∷ xs) new zero rising at = ap (λ o. match_ordering o (x ∷ placed_by key false new xs) (x ∷ xs) (new ∷ x ∷ xs)) (at.same x)
  older_at (x ∷ xs) new (suc i) rising at =
      ap (λ o. match_ordering o (x ∷ placed_by key false new xs) (x ∷ xs) (new ∷ x ∷ xs)) (before_at x xs (key new) i rising at) ∙ ap (λ (l : List X). x ∷ l) (older_at xs new i rising.1 (next_at x xs (key new) i at))

  pub without_at : (xs : List X) (t : Template) (i : ℕ) → RiseBy key xs → IsAt key xs t i → without_by key t xs ≡ remove xs i
  without_at [] t i rising at = absurd (omega (arith, at.inside))
  without_at (x ∷ xs) t zero rising at = ap (λ o. match_ordering o (x ∷ without_by key t xs) xs (x ∷ xs)) (at.same x)
  without_at (x ∷ xs) t (suc i) rising at =
      ap (λ o. match_ordering o (x ∷ without_by key t xs) xs (x ∷ xs)) (before_at x xs t i rising at) ∙ ap (λ (l : List X). x ∷ l) (without_at xs t i rising.1 (next_at x xs t i at))

  -- none is there
  pub none_in_gap : (xs : List X) (t : Template) (i : ℕ) → IsGap key xs t i → found_by key t xs ≡ None
  none_in_gap [] t i gap = refl
  none_in_gap (x ∷ xs) t zero gap = ap (λ o. match_ordering o (found_by key t xs) (Some x) None) (gap.behind 0 x (omega arith) (omega arith))
  none_in_gap (x ∷ xs) t (suc i) gap = ap (λ o. match_ordering o (found_by key t xs) (Some x) None) (gap.before 0 x (omega arith) (omega arith)) ∙ none_in_gap xs t i (next_gap x xs t i gap)

  pub placed_in_gap : (newer : Bool) (xs : List X) (new : X) (i : ℕ) → IsGap key xs (key new) i → placed_by key newer new xs ≡ insert xs i new
  placed_in_gap newer [] new zero gap = refl
  placed_in_gap newer [] new (suc i) gap = absurd (omega (arith, gap.inside))
  placed_in_gap newer (x ∷ xs) new zero gap =
      ap (λ o. match_ordering o (x ∷ placed_by key newer new xs) ((if newer then new else x) ∷ xs) (new ∷ x ∷ xs)) (gap.behind 0 x (omega arith) (omega arith))
  placed_in_gap newer (x ∷ xs) new (suc i) gap =
      ap (λ o. match_ordering o (x ∷ placed_by key newer new xs) ((if newer then new else x) ∷ xs) (new ∷ x ∷ xs)) (gap.before 0 x (omega arith) (omega arith))
      ∙ ap (λ (l : List X). x ∷ l) (placed_in_gap newer xs new i (next_gap x xs (key new) i gap))

  pub without_in_gap : (xs : List X) (t : Template) (i : ℕ) → IsGap key xs t i → without_by key t xs ≡ xs
  without_in_gap [] t i gap = refl
  without_in_gap (x ∷ xs) t zero gap = ap (λ o. match_ordering o (x ∷ without_by key t xs) xs (x ∷ xs)) (gap.behind 0 x (omega arith) (omega arith))
  without_in_gap (x ∷ xs) t (suc i) gap =
      ap (λ o. match_ordering o (x ∷ without_by key t xs) xs (x ∷ xs)) (gap.before 0 x (omega arith) (omega arith)) ∙ ap (λ (l : List X). x ∷ l) (without_in_gap xs t i (next_gap x xs t i gap))

  -- the elements stay in order
  each_placed : (P : X → Type 0) (newer : Bool) (new : X) (xs : List X) → P new → AllByRecursion P xs → AllByRecursion P (placed_by key newer new xs)
  each_placed P newer new [] p each = (p, tt)
  each_placed P newer new (x ∷ xs) p each = by_order (template_cmp (key x) (key new)) newer (each_placed P newer new xs p each.1)
    where
      by_order : (o : Ordering) (n : Bool) → AllByRecursion P (placed_by key newer new xs) → AllByRecursion P (match_ordering o (x ∷ placed_by key newer new xs) ((if n then new else x) ∷ xs) (new ∷ x ∷ xs))
      by_order Less n more = (each.0, more)
      by_order Equal true more = (p, each.1)
      by_order Equal false more = (each.0, each.1)
      by_order Greater n more = (p, (each.0, each.1))

  pub rise_placed : (newer : Bool) (new : X) (xs : List X) → RiseBy key xs → RiseBy key (placed_by key newer new xs)
  rise_placed newer new [] rising = (tt, tt)
  rise_placed newer new (x ∷ xs) rising = by_order (template_cmp (key x) (key new)) newer refl (rise_placed newer new xs rising.1)
    where
      by_order : (o : Ordering) (n : Bool) → template_cmp (key x) (key new) ≡ o → RiseBy key (placed_by key newer new xs) → RiseBy key (match_ordering o (x ∷ placed_by key newer new xs) ((if n then new else x) ∷ xs) (new ∷ x ∷ xs))
      by_order Less n is more = (each_placed _ newer new xs is rising.0, more)
      by_order Equal true is more = (each_weaker _ _ (λ y less. sym (same_then (key x) (key new) (key y) is) ∙ less) xs rising.0, rising.1)
      by_order Equal false is more = rising
      by_order Greater n is more =
          let first : template_cmp (key new) (key x) ≡ Less = turned_more (key x) (key new) is in
          ((first, each_weaker _ _ (λ y less. below_then (key new) (key x) (key y) first less) xs rising.0), rising)

  each_without : (P : X → Type 0) (t : Template) (xs : List X) → AllByRecursion P xs → AllByRecursion P (without_by key t xs)
  each_without P t [] each = tt
  each_without P t (x ∷ xs) each = by_order (template_cmp (key x) t) (each_without P t xs each.1)
    where
      by_order : (o : Ordering) → AllByRecursion P (without_by key t xs) → AllByRecursion P (match_ordering o (x ∷ without_by key t xs) xs (x ∷ xs))
      by_order Less more = (each.0, more)
      by_order Equal more = each.1
      by_order Greater more = each

  pub rise_without : (t : Template) (xs : List X) → RiseBy key xs → RiseBy key (without_by key t xs)
  rise_without t [] rising = tt
  rise_without t (x ∷ xs) rising = by_order (template_cmp (key x) t) (rise_without t xs rising.1)
    where
      by_order : (o : Ordering) → RiseBy key (without_by key t xs) → RiseBy key (match_ordering o (x ∷ without_by key t xs) xs (x ∷ xs))
      by_order Less more = (each_without _ t xs rising.0, more)
      by_order Equal more = rising.1
      by_order Greater more = rising

  -- of two places the later has the greater template
  rises : (xs : List X) (i j : ℕ) (d : X) → RiseBy key xs → i < j → j < length xs → template_cmp (key (slice_index_or xs i d)) (key (slice_index_or xs j d)) ≡ Less
  rises [] i j d rising lt inside = absurd (omega (arith, inside))
  rises (x ∷ xs) i zero d rising lt inside = absurd (omega (arith, lt))
  rises (x ∷ xs) zero (suc j) d rising lt inside = at_place _ xs j d rising.0 (omega (arith, inside))
  rises (x ∷ xs) (suc i) (suc j) d rising lt inside = rises xs i j d rising.1 (omega (arith, lt)) (omega (arith, inside))

  -- a search goes on behind a lesser element
  pub before_more : (xs : List X) (t : Template) (i : ℕ) → RiseBy key xs → i < length xs → ((d : X) → template_cmp (key (slice_index_or xs i d)) t ≡ Less) → AllWithin (λ x. template_cmp (key x) t ≡ Less) xs 0 (i + 1)
  before_more xs t i rising inside less k d low high =
      ⊎_elim (λ (lt : k < i). below_then (key (slice_index_or xs k d)) (key (slice_index_or xs i d)) t (rises xs k i d rising lt inside) (less d))
      (λ (ge : i ≤ k). let same : i ≡ k = omega (arith, ge, high) in subst (λ n. template_cmp (key (slice_index_or xs n d)) t ≡ Less) same (less d))
      (cases_lt k i)

  -- and before a greater one
  pub behind_more : (xs : List X) (t : Template) (i : ℕ) → RiseBy key xs → ((d : X) → template_cmp (key (slice_index_or xs i d)) t ≡ Greater) → AllWithin (λ x. template_cmp (key x) t ≡ Greater) xs i (length xs)
  behind_more xs t i rising more k d low high =
      ⊎_elim (λ (lt : i < k).
      let first : template_cmp t (key (slice_index_or xs i d)) ≡ Less = turned_more (key (slice_index_or xs i d)) t (more d) in
      turned (key (slice_index_or xs k d)) t ∙ ap ordering_reverse (below_then t (key (slice_index_or xs i d)) (key (slice_index_or xs k d)) first (rises xs i k d rising lt high)))
      (λ (ge : k ≤ i). let same : i ≡ k = omega (arith, ge, low) in subst (λ n. template_cmp (key (slice_index_or xs n d)) t ≡ Greater) same (more d))
      (cases_lt i k)
