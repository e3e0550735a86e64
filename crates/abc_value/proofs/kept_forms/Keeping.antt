-- What is kept stays so with each change of the parts.
use Rattle.std.proofs.Common.{◌≡◌, ◌≢◌, ℕ, ◌+◌, ◌<◌, ◌≤◌, List, [], ◌∷◌, ◌++◌, length, get_or, Bool, true, false, Option, None, Some, refl, sym, ap, ◌∙◌, subst, arith}
use Rattle.std.specs.List.{insert, remove, slice_set}
use Rattle.abc_num.specs.declared.types.Ground.{Ground}
use Rattle.abc_value.specs.Tree.{Tree}
use Rattle.abc_value.specs.Forms.{Form, Fits, join, joined, form_of}
use Rattle.abc_value.proofs.forms.Joins.{fits_join}
use Rattle.abc_value.proofs.forms.Shaping.{has_form, form_has}
use Rattle.abc_value.specs.inner.Kept.{is_form, counted, wholes, common_form, AreWhole, IsKept}
use Rattle.abc_value.proofs.forms.CommonForms.{fit_all, common_is, more_common, one_common, same_common, inserted_have, have_inserted, removed_have, replaced_have, have_replaced}
use Rattle.abc_value.proofs.kept_forms.Wholes.{form_where_is, is_where_form, insert_wholes, remove_wholes, replace_wholes, whole_fits}

pub some_there : (e : Tree) (xs : List Tree) → (e ∷ xs) ≢ []
some_there e xs h = cc

at_a_place : (xs : List Tree) (i : ℕ) → i < length xs → xs ≢ []
at_a_place xs i l h = omega (arith, ap length h)

-- of one part
one_whole : (o : Option Form) (e : Tree) → o ≡ form_of e → AreWhole o 1 (e ∷ [])
one_whole None e is = tt
one_whole (Some s) e is = omega (arith, ap (λ b. counted b 1) (is_where_form (form_of e) s (sym is)))

pub one_kept : (o : Option Form) (e : Tree) → o ≡ form_of e → IsKept o 1 (e ∷ [])
one_kept o e is = record { form = λ h. is ∙ one_common e; whole = one_whole o e is }

-- so many have the form q of all, where p is that of one part more, and n of the others have the form o
abbrev pub AreMore : Option Form → Option Form → Option Form → ℕ → ℕ → Type 0
AreMore None o p n m = Unit {0}
AreMore (Some u) o p n m = m ≤ counted (is_form p u) 1 + counted (is_form o u) n

others_whole : (o : Option Form) (u : Form) (n : ℕ) (xs : List Tree) (b : Bool) → is_form o u ≡ b → AreWhole o n xs → counted b n ≤ wholes u xs
others_whole o u n xs false e h = omega arith
others_whole o u n xs true e h = let P : Option Form → Type 0 = λ p. AreWhole p n xs in subst P (form_where_is o u e) h

more_whole : (q o p : Option Form) (n m : ℕ) (e : Tree) (xs : List Tree) → AreWhole o n xs → p ≡ form_of e → AreMore q o p n m → AreWhole q m (e ∷ xs)
more_whole None o p n m e xs h is more = tt
more_whole (Some u) o p n m e xs h is more = omega (arith, more, ap (λ r. counted (is_form r u) 1) is, others_whole o u n xs (is_form o u) refl h)

pub more_kept : (q o p : Option Form) (n m : ℕ) (e : Tree) (xs : List Tree) → xs ≢ [] → IsKept o n xs → p ≡ form_of e → q ≡ joined o p → AreMore q o p n m → IsKept q m (e ∷ xs)
more_kept q o p n m e xs some k is join more =
    record { form = λ h. join ∙ (λ i. joined (k.form some i) (is i)) ∙ more_common e xs; whole = more_whole q o p n m e xs k.whole is more }

moved_whole : (o : Option Form) (n : ℕ) (xs ys : List Tree) → ((s : Form) → wholes s ys ≡ wholes s xs) → AreWhole o n xs → AreWhole o n ys
moved_whole None n xs ys same h = tt
moved_whole (Some s) n xs ys same h = omega (arith, same s, h)

-- wherever the part was put
pub inserted_kept : (o : Option Form) (n : ℕ) (e : Tree) (xs : List Tree) (i : ℕ) → IsKept o n (e ∷ xs) → IsKept o n (insert xs i e)
inserted_kept o n e xs i k = record {
  form = λ h. k.form (some_there e xs) ∙ same_common (e ∷ xs) (insert xs i e) (λ g a. inserted_have xs i e g a.0 a.1) (λ g a. have_inserted xs i e g a);
  whole = moved_whole o n (e ∷ xs) (insert xs i e) (λ s. insert_wholes s xs i e) k.whole;
}

insert_last : (xs : List Tree) (e : Tree) → insert xs (length xs) e ≡ xs ++ e ∷ []
insert_last [] e = refl
insert_last (x ∷ xs) e = ap (λ ys. x ∷ ys) (insert_last xs e)

pub last_kept : (o : Option Form) (n : ℕ) (e : Tree) (xs : List Tree) → IsKept o n (e ∷ xs) → IsKept o n (xs ++ e ∷ [])
last_kept o n e xs k = let P : List Tree → Type 0 = λ ys. IsKept o n ys in subst P (insert_last xs e) (inserted_kept o n e xs (length xs) k)

-- a part in place of another
pub replaced_kept : (o : Option Form) (n : ℕ) (e : Tree) (xs : List Tree) (i : ℕ) → i < length xs → IsKept o n (e ∷ remove xs i) → IsKept o n (slice_set xs i e)
replaced_kept o n e xs i l k = record {
  form = λ h. k.form (some_there e (remove xs i)) ∙ same_common (e ∷ remove xs i) (slice_set xs i e) (λ g a. replaced_have xs i e g l a.0 a.1) (λ g a. have_replaced xs i e g l a);
  whole = moved_whole o n (e ∷ remove xs i) (slice_set xs i e) (λ s. replace_wholes s xs i e l) k.whole;
}

-- where a part is left that has the form of all, the others have it too
rest_form : (s : Form) (xs : List Tree) (i : ℕ) (e : Tree) → i < length xs → e ≡ get_or xs i e → Some s ≡ common_form xs → 0 < wholes s (remove xs i) → Some s ≡ common_form (remove xs i)
rest_form s xs i e l is all some =
    let P : Ground → Option Form → Type 0 = λ g o. Fits o g in
    common_is (Some s) (remove xs i) (λ g f. (removed_have xs i e g l is (fit_all xs g (subst (P g) all f))).1) (λ g h. whole_fits s (remove xs i) some g h)

pub rest_kept : (s : Form) (n m : ℕ) (xs : List Tree) (i : ℕ) (e : Tree) → i < length xs → e ≡ get_or xs i e → IsKept (Some s) n xs → m + counted (is_form (form_of e) s) 1 ≤ n → 0 < m → IsKept (Some s) m (remove xs i)
rest_kept s n m xs i e l is k fewer some =
    let left : m ≤ wholes s (remove xs i) = omega (arith, fewer, k.whole, remove_wholes s xs i e l is) in
    record { form = λ h. rest_form s xs i e l is (k.form (at_a_place xs i l)) (omega (arith, left, some)); whole = left }

-- a part whose form is within that of all, in place of another: it is the form of all then
pub narrow_kept : (s t : Form) (n : ℕ) (xs : List Tree) (i : ℕ) (old e : Tree) → i < length xs → old ≡ get_or xs i old → IsKept (Some s) n xs → Some t ≡ form_of e → join s t ≡ Some t → IsKept (Some t) 1 (e ∷ remove xs i)
narrow_kept s t n xs i old e l is k new within =
    let P : Ground → Option Form → Type 0 = λ g o. Fits o g in
    let all : Some s ≡ common_form xs = k.form (at_a_place xs i l) in
    record {
      form = λ h. common_is (Some t) (e ∷ remove xs i)
          (λ g f. (form_has e g (subst (P g) new f), (removed_have xs i old g l is (fit_all xs g (subst (P g) all (fits_join s t g (subst (P g) (sym within) f)).0))).1))
          (λ g a. subst (P g) (sym new) (has_form e g a.0));
      whole = omega (arith, ap (λ b. counted b 1) (is_where_form (form_of e) t (sym new)));
    }
