-- Ranges that are values, and what `check_range` tells of the others.
use Rattle.std.proofs.Common.{◌≡◌, ℕ, zero, suc, ◌+◌, ◌-◌, ◌*◌, ◌<◌, ◌≤◌, ◌^◌, ℤ, pos, negsuc, List, [], ◌∷◌, length, get_or, refl, sym, ap, ◌∙◌, subst, arith, Some, None, Option, Result, Ok, Err, inl, inr}
use Rattle.std.specs.Prelude.{◌+ℤ◌, ◌-ℤ◌, unsigned_abs}
use Rattle.std.specs.List.{AllByRecursion}
use Rattle.std.proofs.lemmas.Int.{ints}
use Rattle.std.proofs.lemmas.Bool.{cases_lt}
use Rattle.abc_num.specs.declared.limits.TheConstants.{MOST_ELEMENTS}
use Rattle.abc_num.specs.Number.{Fraction, IsNumber, whole_number, whole_of}
use Rattle.abc_value.specs.declared.faults.ValueFault.{ValueFault}
use Rattle.abc_value.specs.declared.faults.ValueFault.TheVariants.{TooLong}
use Rattle.abc_value.specs.Tree.{Tree, number, text, compound, list, table, trees}
use Rattle.abc_value.specs.Sizes.{count, trees_height, trees_weight, size_fault}
use Rattle.abc_value.specs.Regular.{IsRegular, AllRegular, IsOrdered, IsCharacter, AreCharacters}
use Rattle.abc_value.specs.Parts.{parts_of}
use Rattle.abc_value.specs.Changes.{in_order}
use Rattle.abc_value.specs.Items.{IsAnswer, HaveRange, range_of, by_fault, if_small, numbers_from, characters_from, count_of, number_range, character_range, checked}
use Rattle.abc_value.specs.inner.Alike.{IsLike, AreAlike}
use Rattle.abc_value.proofs.trees.Rows.{count_trees, listed_trees}
use Rattle.abc_value.proofs.trees.Making.{text_regular}
use Rattle.abc_value.proofs.trees.Itemised.{characters_at}
use Rattle.abc_value.proofs.lists.Adding.{no_fault}
use Rattle.abc_value.proofs.lists.Ranges.{list_too_long, numbers_length, numbers_ordered, characters_length, characters_ordered}
use Rattle.abc_value.proofs.lists.Merging.{stays_in_order}

-- ---- what is told
pub fault_told : (r : Result Tree ValueFault) (f : ValueFault) → Err f ≡ checked r → IsAnswer r (Err f)
fault_told (Ok t) f e = absurd (cc)
fault_told (Err g) f e = let same : f ≡ g = cc in inl (ap Err same)

small_told : (t : Tree) → size_fault t ≡ None → Ok tt ≡ checked (if_small t)
small_told t e = ap (λ o. checked (by_fault t o)) (sym e)

large_told : (t : Tree) (f : ValueFault) → size_fault t ≡ Some f → Err f ≡ checked (if_small t)
large_told t f e = ap (λ o. checked (by_fault t o)) (sym e)

-- a list of few elements that are alike, of no height and of little weight
few_small : (ts : List Tree) → AreAlike ts → length ts ≤ MOST_ELEMENTS → trees_height (trees ts) ≤ 1 → trees_weight (trees ts) ≤ 17 * length ts → size_fault (list (trees ts)) ≡ None
unfolding size_fault
few_small ts a few low light = no_fault (count (trees ts)) (trees_height (trees ts)) (trees_weight (trees ts) + 5) (omega (arith, count_trees ts)) (omega arith) (omega arith)

-- ---- numbers
numbers_like : (x : Fraction) (p : ℤ) (n : ℕ) → AllByRecursion (IsLike (number x)) (numbers_from p n)
numbers_like x p zero = tt
numbers_like x p (suc n) = (record { height = refl; weight = refl; form = refl }, numbers_like x (p +ℤ pos 1) n)

pub numbers_alike : (p : ℤ) (n : ℕ) → AreAlike (numbers_from p n)
numbers_alike p zero = tt
numbers_alike p (suc n) = numbers_like (whole_number p) p (suc n)

numbers_height : (p : ℤ) (n : ℕ) → trees_height (trees (numbers_from p n)) ≤ 1
numbers_height p zero = omega arith
numbers_height p (suc n) = omega (arith, numbers_height (p +ℤ pos 1) n)

numbers_weight : (p : ℤ) (n : ℕ) → trees_weight (trees (numbers_from p n)) ≡ 17 * n
numbers_weight p zero = refl
numbers_weight p (suc n) = omega (arith, numbers_weight (p +ℤ pos 1) n)

numbers_small : (p : ℤ) (n : ℕ) → n ≤ MOST_ELEMENTS → size_fault (list (trees (numbers_from p n))) ≡ None
numbers_small p n few =
    let long = numbers_length p n in
    few_small (numbers_from p n) (numbers_alike p n) (omega (arith, long)) (numbers_height p n) (omega (arith, long, numbers_weight p n))

number_regular : (p : ℤ) → unsigned_abs p < 2 ^ 127 → IsRegular (number (whole_number p))
unfolding IsRegular IsNumber
number_regular p h = inl (refl, h)

numbers_regular : (p : ℤ) (n : ℕ) → ((k : ℕ) → k < n → unsigned_abs (p +ℤ pos k) < 2 ^ 127) → AllRegular (trees (numbers_from p n))
unfolding AllRegular
numbers_regular p zero h = tt
numbers_regular p (suc n) h =
    let here : p +ℤ pos 0 ≡ p = omega (arith, ints) in
    let next : (k : ℕ) → p +ℤ pos (suc k) ≡ (p +ℤ pos 1) +ℤ pos k = λ k. omega (arith, ints) in
    let P : ℤ → Type 0 = λ z. unsigned_abs z < 2 ^ 127 in
    (number_regular p (subst P here (h 0 (omega arith))), numbers_regular (p +ℤ pos 1) n (λ k l. subst P (next k) (h (suc k) (omega (arith, l)))))

between_fits : (p q z : ℤ) (k : ℕ) → unsigned_abs p < 2 ^ 127 → unsigned_abs q < 2 ^ 127 → q -ℤ p +ℤ pos 1 ≡ z → k < count_of z → unsigned_abs (p +ℤ pos k) < 2 ^ 127
between_fits p q (pos n) k f l e h = omega (arith, ints, f, l, e, h)
between_fits p q (negsuc n) k f l e h = absurd (omega (arith, h))

pub range_regular : (p q : ℤ) (n : ℕ) → unsigned_abs p < 2 ^ 127 → unsigned_abs q < 2 ^ 127 → n ≤ count_of (q -ℤ p +ℤ pos 1) → AllRegular (trees (numbers_from p n))
range_regular p q n f l e = numbers_regular p n (λ k h. between_fits p q (q -ℤ p +ℤ pos 1) k f l refl (omega (arith, h, e)))

pub few_told : (p q : ℤ) (n : ℕ) → n ≤ MOST_ELEMENTS → n ≡ count_of (q -ℤ p +ℤ pos 1) → Ok tt ≡ checked (number_range (Some p) (Some q))
few_told p q n few e =
    let m = count_of (q -ℤ p +ℤ pos 1) in
    small_told (list (trees (numbers_from p m))) (numbers_small p m (omega (arith, e)))

too_long_told : (p : ℤ) (m : ℕ) → MOST_ELEMENTS < m → Err TooLong ≡ checked (if_small (list (trees (numbers_from p m))))
too_long_told p m h = large_told (list (trees (numbers_from p m))) TooLong (list_too_long (numbers_from p m) (omega (arith, numbers_length p m)))

pub too_many_told : (p q : ℤ) (n : ℕ) → MOST_ELEMENTS < n → n ≡ count_of (q -ℤ p +ℤ pos 1) → Err TooLong ≡ checked (number_range (Some p) (Some q))
too_many_told p q n h e = too_long_told p (count_of (q -ℤ p +ℤ pos 1)) (omega (arith, e))

pub told_few : (p q : ℤ) (u : Unit {0}) → Ok u ≡ checked (number_range (Some p) (Some q)) → count_of (q -ℤ p +ℤ pos 1) ≤ MOST_ELEMENTS
told_few p q u e = elim (cases_lt MOST_ELEMENTS (count_of (q -ℤ p +ℤ pos 1))) [
  | inl l ↦ (let f = e ∙ sym (too_long_told p (count_of (q -ℤ p +ℤ pos 1)) l) in absurd (cc))
  | inr l ↦ omega (arith, l)
]

-- ---- characters
characters_like : (d c n : ℕ) → AllByRecursion (IsLike (text (d ∷ []))) (characters_from c n)
characters_like d c zero = tt
characters_like d c (suc n) = (record { height = refl; weight = refl; form = refl }, characters_like d (c + 1) n)

pub characters_alike : (c n : ℕ) → AreAlike (characters_from c n)
characters_alike c zero = tt
characters_alike c (suc n) = characters_like c c (suc n)

characters_height : (c n : ℕ) → trees_height (trees (characters_from c n)) ≤ 1
characters_height c zero = omega arith
characters_height c (suc n) = omega (arith, characters_height (c + 1) n)

characters_weight : (c n : ℕ) → trees_weight (trees (characters_from c n)) ≡ 6 * n
characters_weight c zero = refl
characters_weight c (suc n) = omega (arith, characters_weight (c + 1) n)

characters_small : (c n : ℕ) → n ≤ MOST_ELEMENTS → size_fault (list (trees (characters_from c n))) ≡ None
characters_small c n few =
    let long = characters_length c n in
    few_small (characters_from c n) (characters_alike c n) (omega (arith, long)) (characters_height c n) (omega (arith, long, characters_weight c n))

characters_regular : (c n : ℕ) → ((k : ℕ) → k < n → IsCharacter (c + k)) → AllRegular (trees (characters_from c n))
unfolding AllRegular
characters_regular c zero h = tt
characters_regular c (suc n) h =
    let here : c + 0 ≡ c = omega arith in
    let next : (k : ℕ) → c + suc k ≡ (c + 1) + k = λ k. omega arith in
    (text_regular (c ∷ []) (omega arith) (subst IsCharacter here (h 0 (omega arith)), tt), characters_regular (c + 1) n (λ k l. subst IsCharacter (next k) (h (suc k) (omega (arith, l)))))

pub letters_regular : (b c : List ℕ) (n : ℕ) → AreCharacters b → AreCharacters c → 0 < length b → 0 < length c → n ≤ get_or c 0 0 + 1 - get_or b 0 0 → AllRegular (trees (characters_from (get_or b 0 0) n))
letters_regular b c n f l x y e =
    let first = characters_at b 0 0 f x in
    let last = characters_at c 0 0 l y in
    characters_regular (get_or b 0 0) n (λ k h. (omega (arith, first.0), omega (arith, last.1, h, e)))

pub letters_told : (b c : List ℕ) → AreCharacters b → AreCharacters c → length b ≡ 1 → length c ≡ 1 → Ok tt ≡ checked (character_range b c)
letters_told [] c f l x y = absurd (omega arith)
letters_told (b ∷ []) [] f l x y = absurd (omega arith)
letters_told (b ∷ []) (c ∷ []) f l x y = small_told (list (trees (characters_from b (c + 1 - b)))) (characters_small b (c + 1 - b) (omega (arith, l.0.1)))
letters_told (b ∷ []) (c ∷ d ∷ cs) f l x y = absurd (omega arith)
letters_told (b ∷ d ∷ bs) c f l x y = absurd (omega arith)

pub told_letters : (b c : List ℕ) (u : Unit {0}) → Ok u ≡ checked (character_range b c) → (length b ≡ 1) × (length c ≡ 1)
told_letters [] c u e = absurd (cc)
told_letters (b ∷ []) [] u e = absurd (cc)
told_letters (b ∷ []) (c ∷ []) u e = (refl, refl)
told_letters (b ∷ []) (c ∷ d ∷ cs) u e = absurd (cc)
told_letters (b ∷ d ∷ bs) c u e = absurd (cc)

-- ---- the elements of a range stand in order
small_is : (t v : Tree) (o : Option ValueFault) → by_fault t o ≡ Ok v → v ≡ t
small_is t v None e = let same : v ≡ t = cc in same
small_is t v (Some f) e = absurd (cc)

in_order_is : (ts : List Tree) (v : Tree) → IsOrdered (trees ts) → v ≡ list (trees ts) → list (trees (in_order (parts_of v))) ≡ v
in_order_is ts v o e =
    let parts : parts_of v ≡ ts = ap parts_of e ∙ listed_trees ts in
    ap (λ xs. list (trees (in_order xs))) parts ∙ ap (λ xs. list (trees xs)) (stays_in_order ts o) ∙ sym e

numbers_in_order : (o p : Option ℤ) (v : Tree) → number_range o p ≡ Ok v → list (trees (in_order (parts_of v))) ≡ v
numbers_in_order None p v e = absurd (cc)
numbers_in_order (Some p) None v e = absurd (cc)
numbers_in_order (Some p) (Some q) v e =
    let n = count_of (q -ℤ p +ℤ pos 1) in
    let t = list (trees (numbers_from p n)) in
    in_order_is (numbers_from p n) v (numbers_ordered p n) (small_is t v (size_fault t) e)

characters_in_order : (b c : List ℕ) (v : Tree) → character_range b c ≡ Ok v → list (trees (in_order (parts_of v))) ≡ v
characters_in_order [] c v e = absurd (cc)
characters_in_order (b ∷ []) [] v e = absurd (cc)
characters_in_order (b ∷ []) (c ∷ []) v e =
    let t = list (trees (characters_from b (c + 1 - b))) in
    in_order_is (characters_from b (c + 1 - b)) v (characters_ordered b (c + 1 - b)) (small_is t v (size_fault t) e)
characters_in_order (b ∷ []) (c ∷ d ∷ cs) v e = absurd (cc)
characters_in_order (b ∷ d ∷ bs) c v e = absurd (cc)

pub range_in_order : (p q v : Tree) → HaveRange p q → range_of p q ≡ Ok v → list (trees (in_order (parts_of v))) ≡ v
range_in_order (number x) (number y) v h e = numbers_in_order (whole_of x) (whole_of y) v e
range_in_order (text b) (text c) v h e = characters_in_order b c v e
range_in_order (number x) (text c) v h e = absurd h
range_in_order (number x) (compound ts) v h e = absurd h
range_in_order (number x) (list ts) v h e = absurd h
range_in_order (number x) (table ps) v h e = absurd h
range_in_order (text b) (number y) v h e = absurd h
range_in_order (text b) (compound ts) v h e = absurd h
range_in_order (text b) (list ts) v h e = absurd h
range_in_order (text b) (table ps) v h e = absurd h
range_in_order (compound ts) q v h e = absurd h
range_in_order (list ts) q v h e = absurd h
range_in_order (table ps) q v h e = absurd h
