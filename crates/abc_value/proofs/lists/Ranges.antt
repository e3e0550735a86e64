-- Lists in order that are made at once, and ranges.
use Rattle.std.proofs.Common.{◌≡◌, ℕ, zero, suc, ◌+◌, ◌<◌, ◌≤◌, ◌^◌, ℤ, pos, ◌*ℤ◌, List, [], ◌∷◌, ◌++◌, length, refl, sym, ap, ◌∙◌, arith, Some, None, inl, inr, add-one}
use Rattle.std.specs.Prelude.{◌+ℤ◌, ◌<ℤ◌, unsigned_abs}
use Rattle.std.specs.List.{insert}
use Rattle.std.specs.declared.cmp.Ordering.TheVariants.{Less, Equal}
use Rattle.std.specs.Ordering.{nat_cmp, ordering_then}
use Rattle.std.proofs.lemmas.Int.{ints, to_z-of_z}
use Rattle.std.proofs.lemmas.List.Edits.{insert_end}
use mir.Val.{to_z, of_z, SFits}
use mir.Syntax.{w128}
use Rattle.std.proofs.Common.{rules}
use Rattle.std.proofs.lemmas.Bool.Decides.{nat_tests}
use Rattle.abc_num.specs.declared.limits.TheConstants.{MOST_ELEMENTS}
use Rattle.abc_num.specs.Number.{Fraction, IsNumber, whole_number, whole_of}
use Rattle.abc_num.proofs.Order.{is_less, whole_of-some}
use Rattle.abc_value.specs.declared.faults.ValueFault.TheVariants.{TooLong}
use Rattle.abc_value.specs.Tree.{Tree, Trees, number, text, compound, list, trees}
use Rattle.abc_value.specs.Order.{order}
use Rattle.abc_value.specs.Sizes.{height_of, weight_of, trees_height, trees_weight, sizes_fault, size_fault}
use Rattle.abc_value.specs.Regular.{IsRegular, AllRegular, IsOrdered}
use Rattle.abc_value.specs.Items.{numbers_from, characters_from}
use Rattle.abc_value.proofs.trees.Rows.{count_trees}
use Rattle.abc_value.proofs.lists.Adding.{AreSmall, small_sizes}
use Rattle.abc_value.proofs.trees.Making.{compound_too_long}
use Rattle.abc_value.proofs.lists.Placing.{less_not_greater}

-- a list has the sizes of a compound of its elements
pub list_fault : (ts : Trees) → size_fault (compound ts) ≡ size_fault (list ts)
unfolding size_fault
list_fault ts = refl

pub list_too_long : (xs : List Tree) → MOST_ELEMENTS < length xs → size_fault (list (trees xs)) ≡ Some TooLong
list_too_long xs h = sym (list_fault (trees xs)) ∙ compound_too_long xs h

pub list_invariant : (xs : List Tree) (h w : ℕ) → IsOrdered (trees xs) → AllRegular (trees xs) → h ≡ trees_height (trees xs) → w ≡ trees_weight (trees xs) + 5 → sizes_fault (length xs) h w ≡ None → (h ≡ height_of (list (trees xs))) × (w ≡ weight_of (list (trees xs))) × IsRegular (list (trees xs))
unfolding IsRegular
list_invariant xs h w o a p q small =
    let s : AreSmall (length xs) h w = small_sizes (length xs) h w small in
    let n = count_trees xs in
    (p, q, ((omega (arith, s.long), omega (arith, s.high), omega (arith, s.heavy)), o, a))

-- ---- numbers
pub numbers_length : (p : ℤ) (n : ℕ) → length (numbers_from p n) ≡ n
numbers_length p zero = refl
numbers_length p (suc n) = ap suc (numbers_length (p +ℤ pos 1) n)

pub numbers_more : (p : ℤ) (n : ℕ) → numbers_from p n ++ number (whole_number (p +ℤ pos n)) ∷ [] ≡ numbers_from p (suc n)
numbers_more p zero = let e : p +ℤ pos 0 ≡ p = omega (arith, ints) in ap (λ z. number (whole_number z) ∷ []) e
numbers_more p (suc n) =
    let e : p +ℤ pos (suc n) ≡ (p +ℤ pos 1) +ℤ pos n = omega (arith, ints) in
    ap (λ xs. number (whole_number p) ∷ xs) (ap (λ z. numbers_from (p +ℤ pos 1) n ++ number (whole_number z) ∷ []) e ∙ numbers_more (p +ℤ pos 1) n)

next_greater : (p : ℤ) → order (number (whole_number p)) (number (whole_number (p +ℤ pos 1))) ≡ Less
next_greater p =
    let h : (p *ℤ pos 1) <ℤ ((p +ℤ pos 1) *ℤ pos 1) = omega (arith, ints) in
    is_less (p *ℤ pos 1) ((p +ℤ pos 1) *ℤ pos 1) h

pub numbers_ordered : (p : ℤ) (n : ℕ) → IsOrdered (trees (numbers_from p n))
numbers_ordered p zero = tt
numbers_ordered p (suc zero) = tt
numbers_ordered p (suc (suc n)) = (less_not_greater _ (next_greater p), numbers_ordered (p +ℤ pos 1) (suc n))

-- ---- characters
pub characters_length : (c n : ℕ) → length (characters_from c n) ≡ n
characters_length c zero = refl
characters_length c (suc n) = ap suc (characters_length (c + 1) n)

pub characters_more : (c n : ℕ) → characters_from c n ++ text ((c + n) ∷ []) ∷ [] ≡ characters_from c (suc n)
characters_more c zero = let e : c + 0 ≡ c = omega arith in ap (λ d. text (d ∷ []) ∷ []) e
characters_more c (suc n) =
    let e : c + suc n ≡ (c + 1) + n = omega arith in
    ap (λ xs. text (c ∷ []) ∷ xs) (ap (λ d. characters_from (c + 1) n ++ text (d ∷ []) ∷ []) e ∙ characters_more (c + 1) n)

next_character : (c : ℕ) → order (text (c ∷ [])) (text ((c + 1) ∷ [])) ≡ Less
next_character c = let h : nat_cmp c (c + 1) ≡ Less = grind (arith, nat_tests) in ap (λ r. ordering_then r Equal) h

pub characters_ordered : (c n : ℕ) → IsOrdered (trees (characters_from c n))
characters_ordered c zero = tt
characters_ordered c (suc zero) = tt
characters_ordered c (suc (suc n)) = (less_not_greater _ (next_character c), characters_ordered (c + 1) (suc n))

-- the whole number that a number is has 127 bits
pub whole_fits : (x : Fraction) (n : ℤ) → IsNumber x → Some n ≡ whole_of x → unsigned_abs n < 2 ^ 127
unfolding IsNumber
whole_fits x n (inl i) e = let w = whole_of-some x n e in omega (arith, i.1, ap unsigned_abs w.1)
whole_fits x n (inr i) e = let w = whole_of-some x n e in absurd (omega (arith, i.0, w.0))

-- so many numbers and one more
pub push_number : (p : ℤ) (n : ℕ) (xs ys : List Tree) (v : Tree) → xs ≡ numbers_from p n → v ≡ number (whole_number (p +ℤ pos n)) → ys ≡ insert xs n v → ys ≡ numbers_from p (n + 1)
push_number p n xs ys v e f g =
    let end : n ≡ length xs = sym (numbers_length p n) ∙ ap length (sym e) in
    g ∙ ap (λ k. insert xs k v) end ∙ insert_end xs v ∙ (λ i. e i ++ f i ∷ []) ∙ numbers_more p n ∙ ap (numbers_from p) (sym (add-one n))

pub push_character : (c n : ℕ) (xs ys : List Tree) (v : Tree) → xs ≡ characters_from c n → v ≡ text ((c + n) ∷ []) → ys ≡ insert xs n v → ys ≡ characters_from c (n + 1)
push_character c n xs ys v e f g =
    let end : n ≡ length xs = sym (characters_length c n) ∙ ap length (sym e) in
    g ∙ ap (λ k. insert xs k v) end ∙ insert_end xs v ∙ (λ i. e i ++ f i ∷ []) ∙ characters_more c n ∙ ap (characters_from c) (sym (add-one n))

pub numbers_end : (p : ℤ) (n : ℕ) (xs : List Tree) → xs ≡ numbers_from p n → n ≤ length xs
numbers_end p n xs e = omega (arith, ap length e, numbers_length p n)

pub characters_end : (c n : ℕ) (xs : List Tree) → xs ≡ characters_from c n → n ≤ length xs
characters_end c n xs e = omega (arith, ap length e, characters_length c n)

-- a number of 127 bits is passed as it is
pub passed : (z : ℤ) → unsigned_abs z < 2 ^ 127 → unsigned_abs (to_z w128 (of_z w128 z)) < 2 ^ 127
passed z h =
    let f : SFits w128 z = search (rules, ints, h) in
    rw (to_z-of_z w128 z f) h
