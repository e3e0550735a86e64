-- Steps of the code that keeps a form, over the laws of what is kept.
use Rattle.std.proofs.Common.{◌≡◌, ◌≢◌, ℕ, suc, ◌+◌, ◌-◌, ◌<◌, ◌≤◌, List, [], ◌∷◌, ◌++◌, length, map, take, drop, get_or, Bool, Option, None, Some, Result, Ok, Err, refl, sym, ap, ◌∙◌, subst, arith, append_assoc, append-nil, add-one}
use Rattle.std.specs.Prelude.{IfOk, IsTrue}
use Rattle.std.specs.Option.{IfSome}
use Rattle.std.specs.List.{insert, remove, slice_set, between}
use Rattle.std.proofs.lemmas.List.{take_all, length-drop, length-append}
use Rattle.std.proofs.lemmas.List.Edits.{between_more, length-between, length-remove}
use Rattle.abc_value.specs.Tree.{Tree}
use Rattle.abc_value.specs.Forms.{Form, join, joined, form_of}
use Rattle.abc_value.specs.declared.value.Entry.{Entry}
use Rattle.abc_value.specs.inner.Kept.{same_form, is_form, counted, common_form, AreWhole, IsKept, IsWithin}
use Rattle.abc_value.proofs.tables.Columns.{column_insert, column_remove, column_set}
use Rattle.abc_value.proofs.forms.CommonForms.{more_common, one_common}
use Rattle.abc_value.proofs.kept_forms.Wholes.{one_where_same}
use Rattle.abc_value.proofs.kept_forms.Keeping.{some_there, AreMore, inserted_kept, last_kept, replaced_kept, rest_kept, narrow_kept}

pub if_ok : {X E : Type 0} {P Q : X → Type 0} (r : Result X E) → ((x : X) → P x → Q x) → IfOk r P → IfOk r Q
if_ok (Ok x) f h = f x h
if_ok (Err e) f h = tt

pub told : {X : Type 0} (P : X → Type 0) (o : Option X) (x : X) → o ≡ Some x → IfSome o P → P x
told P o x is h = subst (λ p. IfSome p P) is h

pub joined_none : (o : Option Form) → joined None o ≡ None
joined_none None = refl
joined_none (Some s) = refl

pub none_joined : (o : Option Form) → joined o None ≡ None
none_joined None = refl
none_joined (Some s) = refl

pub some_values : (ts : List Tree) (n : ℕ) → length ts ≡ n → (n ≡ 0 → ⊥) → ts ≢ []
some_values ts n is some h = some (sym is ∙ ap length h)

-- values with one more have no form together
pub none_more : (o p : Option Form) (n : ℕ) (e : Tree) (xs : List Tree) → xs ≢ [] → IsKept o n xs → p ≡ form_of e → None ≡ joined o p → None ≡ common_form (e ∷ xs)
none_more o p n e xs some k is none = none ∙ (λ i. joined (k.form some i) (is i)) ∙ more_common e xs

-- so many of the values have the joined form u
pub counted_more : (o : Option Form) (s t u w : Form) (f g : Bool) (a b n m : ℕ) → o ≡ Some s → w ≡ u → f ≡ same_form s u → a ≡ counted f n → g ≡ same_form t u → b ≡ counted g 1 → m ≤ a + b → AreMore (Some w) o (Some t) n m
counted_more o s t u w f g a b n m is now p x q y most =
    let others : a ≡ counted (is_form o w) n = x ∙ ap (λ h. counted h n) (p ∙ (λ i. is_form (sym is i) (sym now i))) in
    let one : b ≡ counted (same_form t w) 1 = y ∙ ap (λ h. counted h 1) (q ∙ ap (same_form t) (sym now)) in
    omega (arith, most, others, one)

-- ---- the values at some places
pub start_between : (o : Option Form) (n : ℕ) (ts xs : List Tree) (i : ℕ) → IsKept o n ts → IsKept o n (ts ++ between i i xs)
start_between o n ts xs i k =
    let P : List Tree → Type 0 = λ ys. IsKept o n ys in
    let m : 0 ≡ i - i = omega arith in
    subst P (sym (append-nil ts) ∙ ap (λ j. ts ++ take j (drop i xs)) m) k

pub turn_between : (o : Option Form) (n : ℕ) (x : Tree) (ts xs : List Tree) (from i : ℕ) → from ≤ i → i < length xs → x ≡ get_or xs i x → IsKept o n (x ∷ (ts ++ between from i xs)) → IsKept o n (ts ++ between from (i + 1) xs)
turn_between o n x ts xs from i low within is k =
    let P : List Tree → Type 0 = λ ys. IsKept o n ys in
    let more : between from (i + 1) xs ≡ between from i xs ++ x ∷ [] = between_more xs from i x low within ∙ ap (λ y. between from i xs ++ y ∷ []) (sym is) in
    subst P (append_assoc ts (between from i xs) (x ∷ []) ∙ ap (λ ys. ts ++ ys) (sym more)) (last_kept o n x (ts ++ between from i xs) k)

pub count_between : (ts xs : List Tree) (from i n : ℕ) → length ts ≡ n → i ≤ length xs → length (ts ++ between from i xs) ≡ n + (i - from)
count_between ts xs from i n is within = omega (arith, length-append ts (between from i xs), length-between xs from i within, is)

pub ended_between : (o : Option Form) (n : ℕ) (ts xs : List Tree) (from i to : ℕ) → i ≡ to → IsKept o n (ts ++ between from i xs) → IsKept o n (ts ++ between from to xs)
ended_between o n ts xs from i to is k = let P : ℕ → Type 0 = λ j. IsKept o n (ts ++ between from j xs) in subst P is k

-- all values but one are those in front of it and those behind it
pub others_kept : (o : Option Form) (n : ℕ) (xs : List Tree) (i m : ℕ) → m ≡ length xs → IsKept o n (between 0 i xs ++ between (i + 1) m xs) → IsKept o n (remove xs i)
others_kept o n xs i m end k =
    let P : List Tree → Type 0 = λ ys. IsKept o n ys in
    let front : between 0 i xs ≡ take i xs = (let z : i - 0 ≡ i = omega arith in ap (λ j. take j xs) z) in
    let back : between (i + 1) m xs ≡ drop (suc i) xs = take_all (m - (i + 1)) (drop (i + 1) xs) (omega (arith, length-drop (i + 1) xs, end)) ∙ ap (λ j. drop j xs) (add-one i) in
    subst P (λ j. front j ++ back j) k

pub front_length : (xs : List Tree) (i : ℕ) → i < length xs → length ([] ++ between 0 i xs) ≡ i
front_length xs i l = omega (arith, length-between xs 0 i (omega arith))

-- ---- one value less, or in place of another
pub less_kept : (o : Option Form) (s u : Form) (b : Bool) (d n m : ℕ) (xs : List Tree) (i : ℕ) (e : Tree) → o ≡ Some s → u ≡ s → b ≡ is_form (form_of e) u → d ≡ counted b 1 → m + d ≤ n → 0 < m → i < length xs → e ≡ get_or xs i e → IsKept o n xs → IsKept (Some s) m (remove xs i)
less_kept o s u b d n m xs i e is same p x fewer some l at k =
    let P : Option Form → Type 0 = λ q. IsKept q n xs in
    let one : d ≡ counted (is_form (form_of e) s) 1 = x ∙ ap (λ h. counted h 1) (p ∙ ap (is_form (form_of e)) same) in
    rest_kept s n m xs i e l at (subst P is k) (omega (arith, fewer, one)) some

pub within : (o p : Option Form) (s t u : Form) (b : Bool) → o ≡ Some s → p ≡ Some t → Some u ≡ join s t → b ≡ same_form u t → IsTrue b → IsWithin o p
within o p s t u b is new found same holds =
    let narrow : join s t ≡ Some t = sym found ∙ ap Some (one_where_same u t (sym same ∙ holds)) in
    let P : Option Form → Type 0 = λ q. IsWithin q p in
    let Q : Option Form → Type 0 = λ q. IsWithin (Some s) q in
    subst P (sym is) (subst Q (sym new) narrow)

one_of_more : (q : Option Form) (m : ℕ) (e : Tree) (ys : List Tree) → AreWhole q m (e ∷ []) → AreWhole q m (e ∷ ys)
one_of_more None m e ys h = tt
one_of_more (Some s) m e ys h = omega (arith, h)

narrowed : (o p q : Option Form) (n m : ℕ) (xs : List Tree) (i : ℕ) (old e : Tree) → p ≡ form_of e → i < length xs → old ≡ get_or xs i old → IsKept o n xs → IsWithin o p → IsKept q m (e ∷ []) → IsKept q m (e ∷ remove xs i)
narrowed None p q n m xs i old e new l is k narrow one = absurd narrow
narrowed (Some s) None q n m xs i old e new l is k narrow one = absurd narrow
narrowed (Some s) (Some t) q n m xs i old e new l is k narrow one =
    let all = narrow_kept s t n xs i old e l is k new narrow in
    record {
      form = λ h. one.form (some_there e []) ∙ sym (one_common e) ∙ sym new ∙ all.form h;
      whole = one_of_more q m e (remove xs i) one.whole;
    }

pub narrowed_kept : (o q : Option Form) (n m : ℕ) (xs : List Tree) (i : ℕ) (old e : Tree) → i < length xs → old ≡ get_or xs i old → IsKept o n xs → IsWithin o (form_of e) → IsKept q m (e ∷ []) → IsKept q m (slice_set xs i e)
narrowed_kept o q n m xs i old e l is k narrow one = replaced_kept q m e xs i l (narrowed o (form_of e) q n m xs i old e refl l is k narrow one)

pub fewer_values : (xs : List Tree) (i n : ℕ) → n ≡ length xs → i < length xs → length (remove xs i) ≡ n - 1
fewer_values xs i n is l = omega (arith, length-remove xs i l, is)

-- ---- a change of entries, for the keys and for the associates
pub inserted_into : (o : Option Form) (n : ℕ) (xs ys : List Tree) (i : ℕ) (e : Tree) → ys ≡ insert xs i e → IsKept o n (e ∷ xs) → IsKept o n ys
inserted_into o n xs ys i e is k = let P : List Tree → Type 0 = λ zs. IsKept o n zs in subst P (sym is) (inserted_kept o n e xs i k)

module _ (part : Entry → Tree) (o : Option Form) (n : ℕ) (es fs : List Entry) (i : ℕ) where
  pub column_inserted : (e : Entry) → fs ≡ insert es i e → IsKept o n (part e ∷ map part es) → IsKept o n (map part fs)
  column_inserted e is k = inserted_into o n (map part es) (map part fs) i (part e) (ap (map part) is ∙ column_insert part es i e) k

  pub column_removed : fs ≡ remove es i → IsKept o n (remove (map part es) i) → IsKept o n (map part fs)
  column_removed is k = let P : List Tree → Type 0 = λ zs. IsKept o n zs in subst P (sym (ap (map part) is ∙ column_remove part es i)) k

  pub column_replaced : (e : Entry) → fs ≡ slice_set es i e → IsKept o n (slice_set (map part es) i (part e)) → IsKept o n (map part fs)
  column_replaced e is k = let P : List Tree → Type 0 = λ zs. IsKept o n zs in subst P (sym (ap (map part) is ∙ column_set part es i e)) k
