-- The least name whose unit is not there, and what it means for a program.
use Rattle.std.proofs.Common.{◌≡◌, ◌≢◌, ◌<◌, ◌+◌, ◌⊎◌, inl, inr, ℕ, Bool, true, false, List, [], length, get_or, Option, Some, None, refl, sym, ap, subst, ◌∙◌, arith}
use Rattle.std.specs.Prelude.{is_some}
use Rattle.std.specs.declared.cmp.Ordering.TheVariants.{Less, Equal, Greater}
use Rattle.std.specs.Ordering.{ordering_reverse}
use Rattle.std.specs.Cmp.Lexicographic.{nat_list_cmp_total}
use Rattle.std.proofs.lemmas.Bool.{cases_eq}
use Rattle.std.proofs.lemmas.List.{get_or-map, get_or_default, length-map}
use Rattle.std.proofs.lemmas.List.Elements.{Contains-get_or}
use Rattle.abc_num.specs.Text.{text_cmp}
use Rattle.abc_tree.specs.Templates.{template_text}
use Rattle.abc_tree.specs.declared.templates.Template.{Template}
use Rattle.abc_groups.specs.Program.{Program, IsFirstMissing, NoneIsMissing, texts}
use Rattle.abc_groups.specs.inner.Found.{name_of}
use Rattle.abc_groups.specs.inner.Explored.{IsExplored}
use Rattle.abc_groups.specs.inner.Least.{IsHere, IsAway, IsLeast, IsLeastAt}
use Rattle.abc_groups.proofs.Texts.{itself}
use Rattle.abc_groups.proofs.Exploring.{found_exactly, place_of}

-- the name of a template that was read
pub name_read : (ts : List Template) (i : ℕ) (t : Template) → i < length ts → t ≡ get_or ts i t → name_of (texts ts) i ≡ template_text t
name_read ts i t h at = get_or-map template_text ts i t [] h ∙ ap template_text (sym at)

last_or_before : (k n : ℕ) → k < n + 1 → (k < n) ⊎ (k ≡ n)
last_or_before k n h = elim (cases_eq k n) [
  | inl e ↦ inr e
  | inr ne ↦ inl (omega (arith, h, ne))
]

not_itself : (s : List ℕ) → text_cmp s s ≢ Greater
not_itself s e = let f : Equal ≡ Greater = sym (itself s) ∙ e in cc

module _ (names : List (List ℕ)) (there : List Bool) (n : ℕ) where
  here_not_away : (k : ℕ) → IsHere there k → IsAway there k → ⊥
  here_not_away k here away = let f : true ≡ false = sym here ∙ away in cc

  pub least_skip : (best : Option ℕ) → IsHere there n → IsLeast names there n best → IsLeast names there (n + 1) best
  least_skip None here all = λ k h. elim (last_or_before k n h) [
    | inl low ↦ all k low
    | inr e ↦ subst (IsHere there) (sym e) here
  ]
  least_skip (Some b) here l = (
    omega (arith, l.0),
    l.1,
    λ k h away. elim (last_or_before k n h) [
      | inl low ↦ l.2 k low away
      | inr e ↦ absurd (here_not_away n here (subst (IsAway there) e away))
    ],
  )

  pub least_first : IsAway there n → ((k : ℕ) → k < n → IsHere there k) → IsLeastAt names there (n + 1) n
  least_first off all = (
    omega arith,
    off,
    λ k h away. elim (last_or_before k n h) [
      | inl low ↦ absurd (here_not_away k (all k low) away)
      | inr e ↦ subst (λ j. text_cmp (name_of names n) (name_of names j) ≢ Greater) (sym e) (not_itself (name_of names n))
    ],
  )

  pub least_kept : (b : ℕ) → text_cmp (name_of names b) (name_of names n) ≢ Greater → IsLeastAt names there n b → IsLeastAt names there (n + 1) b
  least_kept b low l = (
    omega (arith, l.0),
    l.1,
    λ k h away. elim (last_or_before k n h) [
      | inl before ↦ l.2 k before away
      | inr e ↦ subst (λ j. text_cmp (name_of names b) (name_of names j) ≢ Greater) (sym e) low
    ],
  )

  turned : (s t : List ℕ) → text_cmp s t ≡ Greater → text_cmp t s ≡ Less
  turned s t h = nat_list_cmp_total.antisymm t s ∙ ap ordering_reverse h

  turned_back : (s t : List ℕ) → text_cmp s t ≡ Less → text_cmp t s ≡ Greater
  turned_back s t h = nat_list_cmp_total.antisymm t s ∙ ap ordering_reverse h

  pub least_new : (b : ℕ) → IsAway there n → text_cmp (name_of names b) (name_of names n) ≡ Greater → IsLeastAt names there n b → IsLeastAt names there (n + 1) n
  least_new b off more l = (
    omega arith,
    off,
    λ k h away. elim (last_or_before k n h) [
      | inl before ↦ (λ greater. l.2 k before away (turned_back (name_of names k) (name_of names b)
          (nat_list_cmp_total.trans (name_of names k) (name_of names n) (name_of names b) (turned (name_of names n) (name_of names k) greater) (turned (name_of names b) (name_of names n) more))))
      | inr e ↦ subst (λ j. text_cmp (name_of names n) (name_of names j) ≢ Greater) (sym e) (not_itself (name_of names n))
    ],
  )

pub away_read : (there : List Bool) (i : ℕ) (b : Bool) → i < length there → b ≡ get_or there i b → b ≡ false → IsAway there i
away_read there i b h at off = get_or_default there i false b h ∙ sym at ∙ off

pub length_texts : (ts : List Template) → length (texts ts) ≡ length ts
length_texts ts = length-map ts template_text

none_at : {X : Type 0} (o : Option X) → is_some o ≡ false → o ≡ None
none_at None e = refl
none_at (Some x) e = absurd cc

module _ (program : Program) (seeds names rows : List (List ℕ)) (there : List Bool) (e : IsExplored program seeds names rows there) (whole : length rows ≡ length names) where
  pub nothing_is_missing : ((k : ℕ) → k < length names → IsHere there k) → NoneIsMissing program seeds
  nothing_is_missing all u from none =
      let p : (i : ℕ) × (i < length rows) × (name_of names i ≡ u) = place_of program seeds names rows there e whole u ((found_exactly program seeds names rows there e whole u).1 from) in
      let f : true ≡ false = sym (all p.0 (omega (arith, p.1, whole))) ∙ e.is_there p.0 p.1 ∙ ap (λ t. is_some (program t)) p.2 ∙ ap is_some none in
      cc

  pub this_is_missing : (b : ℕ) → IsLeastAt names there (length names) b → IsFirstMissing program seeds (name_of names b)
  this_is_missing b l = record {
    missing = none_at (program (name_of names b)) (sym (e.is_there b (omega (arith, l.0, whole))) ∙ l.1);
    reached = (found_exactly program seeds names rows there e whole (name_of names b)).0 (Contains-get_or names b [] l.0);
    least = λ u none from.
        let p : (i : ℕ) × (i < length rows) × (name_of names i ≡ u) = place_of program seeds names rows there e whole u ((found_exactly program seeds names rows there e whole u).1 from) in
        subst (λ v. text_cmp (name_of names b) v ≢ Greater) p.2 (l.2 p.0 (omega (arith, p.1, whole)) (e.is_there p.0 p.1 ∙ ap (λ t. is_some (program t)) p.2 ∙ ap is_some none));
  }
