-- How many of some values have a form.
use Rattle.std.proofs.Common.{◌≡◌, ℕ, zero, suc, ◌+◌, ◌<◌, List, [], ◌∷◌, ◌&&◌, length, get_or, Bool, true, false, Option, None, Some, refl, sym, ap, ◌∙◌, subst, arith}
use Rattle.std.specs.List.{insert, remove, slice_set}
use Rattle.abc_num.specs.declared.types.Ground.{Ground}
use Rattle.abc_value.specs.Tree.{Tree, trees}
use Rattle.abc_value.specs.Types.{has, all_have}
use Rattle.abc_value.specs.Forms.{Form, Forms, anything, a_number, a_text, a_collection, a_compound, a_list, a_table, no_forms, more_forms, fits, Fits, form_of}
use Rattle.abc_value.proofs.forms.Shaping.{has_form}
use Rattle.abc_value.specs.inner.Kept.{same_form, same_forms, is_form, counted, wholes}

both_hold : (a b : Bool) → (a && b) ≡ true → (a ≡ true) × (b ≡ true)
both_hold true b e = (refl, e)
both_hold false b e = absurd (cc)

mutual
  pub one_where_same : (s t : Form) → same_form s t ≡ true → s ≡ t
  one_where_same anything anything e = refl
  one_where_same anything a_number e = absurd (cc)
  one_where_same anything a_text e = absurd (cc)
  one_where_same anything a_collection e = absurd (cc)
  one_where_same anything (a_compound ts) e = absurd (cc)
  one_where_same anything (a_list t) e = absurd (cc)
  one_where_same anything (a_table l b) e = absurd (cc)
  one_where_same a_number anything e = absurd (cc)
  one_where_same a_number a_number e = refl
  one_where_same a_number a_text e = absurd (cc)
  one_where_same a_number a_collection e = absurd (cc)
  one_where_same a_number (a_compound ts) e = absurd (cc)
  one_where_same a_number (a_list t) e = absurd (cc)
  one_where_same a_number (a_table l b) e = absurd (cc)
  one_where_same a_text anything e = absurd (cc)
  one_where_same a_text a_number e = absurd (cc)
  one_where_same a_text a_text e = refl
  one_where_same a_text a_collection e = absurd (cc)
  one_where_same a_text (a_compound ts) e = absurd (cc)
  one_where_same a_text (a_list t) e = absurd (cc)
  one_where_same a_text (a_table l b) e = absurd (cc)
  one_where_same a_collection anything e = absurd (cc)
  one_where_same a_collection a_number e = absurd (cc)
  one_where_same a_collection a_text e = absurd (cc)
  one_where_same a_collection a_collection e = refl
  one_where_same a_collection (a_compound ts) e = absurd (cc)
  one_where_same a_collection (a_list t) e = absurd (cc)
  one_where_same a_collection (a_table l b) e = absurd (cc)
  one_where_same (a_compound ss) anything e = absurd (cc)
  one_where_same (a_compound ss) a_number e = absurd (cc)
  one_where_same (a_compound ss) a_text e = absurd (cc)
  one_where_same (a_compound ss) a_collection e = absurd (cc)
  one_where_same (a_compound ss) (a_compound ts) e = ap a_compound (ones_where_same ss ts e)
  one_where_same (a_compound ss) (a_list t) e = absurd (cc)
  one_where_same (a_compound ss) (a_table l b) e = absurd (cc)
  one_where_same (a_list s) anything e = absurd (cc)
  one_where_same (a_list s) a_number e = absurd (cc)
  one_where_same (a_list s) a_text e = absurd (cc)
  one_where_same (a_list s) a_collection e = absurd (cc)
  one_where_same (a_list s) (a_compound ts) e = absurd (cc)
  one_where_same (a_list s) (a_list t) e = ap a_list (one_where_same s t e)
  one_where_same (a_list s) (a_table l b) e = absurd (cc)
  one_where_same (a_table k a) anything e = absurd (cc)
  one_where_same (a_table k a) a_number e = absurd (cc)
  one_where_same (a_table k a) a_text e = absurd (cc)
  one_where_same (a_table k a) a_collection e = absurd (cc)
  one_where_same (a_table k a) (a_compound ts) e = absurd (cc)
  one_where_same (a_table k a) (a_list t) e = absurd (cc)
  one_where_same (a_table k a) (a_table l b) e =
      let h = both_hold (same_form k l) (same_form a b) e in
      let p = one_where_same k l h.0 in
      let q = one_where_same a b h.1 in
      λ i. a_table (p i) (q i)

  ones_where_same : (ss ts : Forms) → same_forms ss ts ≡ true → ss ≡ ts
  ones_where_same no_forms no_forms e = refl
  ones_where_same no_forms (more_forms t ts) e = absurd (cc)
  ones_where_same (more_forms s ss) no_forms e = absurd (cc)
  ones_where_same (more_forms s ss) (more_forms t ts) e =
      let b = both_hold (same_form s t) (same_forms ss ts) e in
      let p = one_where_same s t b.0 in
      let q = ones_where_same ss ts b.1 in
      λ i. more_forms (p i) (q i)

mutual
  same_itself : (s : Form) → same_form s s ≡ true
  same_itself anything = refl
  same_itself a_number = refl
  same_itself a_text = refl
  same_itself a_collection = refl
  same_itself (a_compound ss) = are_themselves ss
  same_itself (a_list s) = same_itself s
  same_itself (a_table k a) = ap (λ b. b && same_form a a) (same_itself k) ∙ same_itself a

  are_themselves : (ss : Forms) → same_forms ss ss ≡ true
  are_themselves no_forms = refl
  are_themselves (more_forms s ss) = ap (λ b. b && same_forms ss ss) (same_itself s) ∙ are_themselves ss

pub form_where_is : (o : Option Form) (s : Form) → is_form o s ≡ true → o ≡ Some s
form_where_is None s e = absurd (cc)
form_where_is (Some t) s e = ap Some (one_where_same t s e)

pub is_where_form : (o : Option Form) (s : Form) → o ≡ Some s → is_form o s ≡ true
is_where_form o s e = ap (λ p. is_form p s) e ∙ same_itself s

-- ---- counts of lists
pub insert_wholes : (s : Form) (xs : List Tree) (i : ℕ) (e : Tree) → wholes s (insert xs i e) ≡ wholes s (e ∷ xs)
insert_wholes s [] zero e = refl
insert_wholes s [] (suc i) e = refl
insert_wholes s (x ∷ xs) zero e = refl
insert_wholes s (x ∷ xs) (suc i) e = omega (arith, insert_wholes s xs i e)

pub remove_wholes : (s : Form) (xs : List Tree) (i : ℕ) (e : Tree) → i < length xs → e ≡ get_or xs i e → wholes s xs ≡ wholes s (e ∷ remove xs i)
remove_wholes s [] i e l is = absurd (omega arith)
remove_wholes s (x ∷ xs) zero e l is = ap (λ t. wholes s (t ∷ xs)) (sym is)
remove_wholes s (x ∷ xs) (suc i) e l is = omega (arith, remove_wholes s xs i e (omega arith) is)

pub replace_wholes : (s : Form) (xs : List Tree) (i : ℕ) (e : Tree) → i < length xs → wholes s (slice_set xs i e) ≡ wholes s (e ∷ remove xs i)
replace_wholes s [] i e l = absurd (omega arith)
replace_wholes s (x ∷ xs) zero e l = refl
replace_wholes s (x ∷ xs) (suc i) e l = omega (arith, replace_wholes s xs i e (omega arith))

-- where one has the form, all types that all of them have are of it
first_fits : (s : Form) (x : Tree) (g : Ground) (n : ℕ) (b : Bool) → is_form (form_of x) s ≡ b → has x g → 0 < counted b 1 + n → (0 < n → fits s g) → fits s g
first_fits s x g n true e h some others = let P : Option Form → Type 0 = λ o. Fits o g in subst P (form_where_is (form_of x) s e) (has_form x g h)
first_fits s x g n false e h some others = others (omega (arith, some))

pub whole_fits : (s : Form) (xs : List Tree) → 0 < wholes s xs → (g : Ground) → all_have (trees xs) g → fits s g
whole_fits s [] some g h = absurd (omega arith)
whole_fits s (x ∷ xs) some g h = first_fits s x g (wholes s xs) (is_form (form_of x) s) refl h.0 some (λ l. whole_fits s xs l g h.1)
