-- The height of a table, of which one associate is another.
use Rattle.std.proofs.Common.{◌≡◌, ℕ, zero, suc, ◌+◌, ◌-◌, ◌<◌, ◌≤◌, max, List, [], ◌∷◌, ◌++◌, length, map, take, drop, get_or, slice_set, sym, ap, ◌∙◌, arith, add-one}
use Rattle.std.specs.List.{between}
use Rattle.std.proofs.lemmas.List.{take_all, length-drop}
use Rattle.std.proofs.lemmas.List.Edits.{between_more}
use Rattle.abc_value.specs.Tree.{Tree, pairs}
use Rattle.abc_value.specs.Sizes.{height_of, pairs_height}
use Rattle.abc_value.specs.declared.value.Entry.{Entry}
use Rattle.abc_value.specs.View.{as_pair}
use Rattle.abc_value.specs.inner.Heights.{others_height}

abbrev high : List Entry → ℕ
high es = pairs_height (pairs (map as_pair es))

pub whole_height : (es : List Entry) (n : ℕ) (e : Entry) → n < length es → e ≡ get_or es n e → high es ≡ max (height_of e.associate + 1) (others_height es n)
whole_height [] n e h is = absurd (omega arith)
whole_height (x ∷ es) zero e h is = omega (arith, ap (λ (e : Entry). height_of e.associate) is)
whole_height (x ∷ es) (suc n) e h is = omega (arith, whole_height es n e (omega arith) is)

pub set_height : (es : List Entry) (n : ℕ) (k a : Tree) (e : Entry) → n < length es → e ≡ get_or es n e → e.key ≡ k → high (slice_set es n (record { key = k; associate = a })) ≡ max (height_of a + 1) (others_height es n)
set_height [] n k a e h is same = absurd (omega arith)
set_height (x ∷ es) zero k a e h is same = omega (arith, ap (λ (e : Entry). height_of e.key) is, ap height_of same)
set_height (x ∷ es) (suc n) k a e h is same = omega (arith, set_height es n k a e (omega arith) is same)

others_parts : (es : List Entry) (n : ℕ) (e : Entry) → n < length es → e ≡ get_or es n e → others_height es n ≡ max (max (high (take n es)) (height_of e.key + 1)) (high (drop (suc n) es))
others_parts [] n e h is = absurd (omega arith)
others_parts (x ∷ es) zero e h is = omega (arith, ap (λ (e : Entry). height_of e.key) is)
others_parts (x ∷ es) (suc n) e h is = omega (arith, others_parts es n e (omega arith) is)

pub others_are : (es : List Entry) (n : ℕ) (e : Entry) → n < length es → e ≡ get_or es n e → others_height es n ≡ max (max (high (between 0 n es)) (height_of e.key + 1)) (high (between (n + 1) (length es) es))
others_are es n e h is =
    let front : take (n - 0) es ≡ take n es = (let m : n - 0 ≡ n = omega arith in ap (λ i. take i es) m) in
    let back : take (length es - (n + 1)) (drop (n + 1) es) ≡ drop (suc n) es = take_all (length es - (n + 1)) (drop (n + 1) es) (omega (arith, length-drop (n + 1) es)) ∙ ap (λ i. drop i es) (add-one n) in
    omega (arith, others_parts es n e h is, ap high front, ap high back)

high_more : (es : List Entry) (e : Entry) → high (es ++ e ∷ []) ≡ max (high es) (max (height_of e.key) (height_of e.associate) + 1)
high_more [] e = omega arith
high_more (x ∷ es) e = omega (arith, high_more es e)

pub none_between : (es : List Entry) (n : ℕ) → 0 ≡ high (between n n es)
none_between es n = let m : n - n ≡ 0 = omega arith in sym (ap (λ i. high (take i (drop n es))) m)

-- a turn of the loop over the entries at some places
pub taller_between : (es : List Entry) (from i h tall : ℕ) (e : Entry) → from ≤ i → i < length es → e ≡ get_or es i e → h ≡ high (between from i es) → tall ≡ max h (max (height_of e.key) (height_of e.associate) + 1) → tall ≡ high (between from (i + 1) es)
taller_between es from i h tall e low within is inv now =
    omega (arith, now, inv, high_more (between from i es) e, ap high (between_more es from i e low within ∙ ap (λ x. between from i es ++ x ∷ []) (sym is)))
