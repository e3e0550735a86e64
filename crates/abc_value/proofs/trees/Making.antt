-- A value from its parts.
use Rattle.std.proofs.Common.{◌≡◌, ℕ, zero, suc, ◌+◌, ◌<◌, ◌≤◌, max, List, [], ◌∷◌, length, take, get_or, refl, sym, ap, subst, arith, add-one, Some, None}
use Rattle.std.proofs.lemmas.Bool.Decides.{nat_tests}
use Rattle.std.proofs.lemmas.List.{take_all}
use Rattle.abc_num.specs.declared.limits.TheConstants.{MOST_ELEMENTS, MOST_VALUE_HEIGHT, MOST_WEIGHT}
use Rattle.abc_value.specs.declared.faults.ValueFault.TheVariants.{TooLong}
use Rattle.abc_value.specs.Tree.{Tree, number, text, compound, list, table, trees}
use Rattle.abc_value.specs.Sizes.{count, height_of, weight_of, trees_height, trees_weight, sizes_fault, size_fault}
use Rattle.abc_value.specs.Regular.{IsRegular, AllRegular, AreCharacters}
use Rattle.abc_value.proofs.trees.Rows.{count_trees}
use Rattle.abc_value.proofs.lists.Adding.{AreSmall, small_sizes}

height_suc : (xs : List Tree) (i : ℕ) (x : Tree) → i < length xs → x ≡ get_or xs i x → trees_height (trees (take (suc i) xs)) ≡ max (trees_height (trees (take i xs))) (height_of x + 1)
height_suc [] i x h e = absurd (omega arith)
height_suc (y ∷ ys) zero x h e = omega (arith, ap height_of e)
height_suc (y ∷ ys) (suc i) x h e = omega (arith, height_suc ys i x (omega arith) e)

weight_suc : (xs : List Tree) (i : ℕ) (x : Tree) → i < length xs → x ≡ get_or xs i x → trees_weight (trees (take (suc i) xs)) ≡ trees_weight (trees (take i xs)) + weight_of x
weight_suc [] i x h e = absurd (omega arith)
weight_suc (y ∷ ys) zero x h e = omega (arith, ap weight_of e)
weight_suc (y ∷ ys) (suc i) x h e = omega (arith, weight_suc ys i x (omega arith) e)

regular_suc : (xs : List Tree) (i : ℕ) (x : Tree) → i < length xs → x ≡ get_or xs i x → IsRegular x → AllRegular (trees (take i xs)) → AllRegular (trees (take (suc i) xs))
unfolding AllRegular
regular_suc [] i x h e r a = absurd (omega arith)
regular_suc (y ∷ ys) zero x h e r a = (subst IsRegular e r, tt)
regular_suc (y ∷ ys) (suc i) x h e r a = (a.0, regular_suc ys i x (omega arith) e r a.1)

pub none_regular : AllRegular (trees [])
unfolding AllRegular
none_regular = tt

-- the sizes that each value keeps
pub regular_sizes : (t : Tree) → IsRegular t → (height_of t ≤ MOST_VALUE_HEIGHT) × (weight_of t ≤ MOST_WEIGHT)
unfolding IsRegular
regular_sizes (number n) h = (omega arith, omega arith)
regular_sizes (text bs) h = (h.0.1, h.0.2)
regular_sizes (compound ts) h = (h.0.1, h.0.2)
regular_sizes (list ts) h = (h.0.1, h.0.2)
regular_sizes (table ps) h = (h.0.1, h.0.2)

-- the front of the parts is at most as tall as all
pub front_height : (xs : List Tree) (i : ℕ) → trees_height (trees (take i xs)) ≤ trees_height (trees xs)
front_height [] zero = omega arith
front_height [] (suc i) = omega arith
front_height (x ∷ xs) zero = omega arith
front_height (x ∷ xs) (suc i) = omega (arith, front_height xs i)

pub taller : (xs : List Tree) (i h k : ℕ) (x : Tree) → i < length xs → x ≡ get_or xs i x → h ≡ trees_height (trees (take i xs)) → k ≡ max h (height_of x + 1) → k ≡ trees_height (trees (take (i + 1) xs))
taller xs i h k x l e p q =
    let P : ℕ → Type 0 = λ j. k ≡ trees_height (trees (take j xs)) in
    subst P (sym (add-one i)) (omega (arith, height_suc xs i x l e))

pub heavier : (xs : List Tree) (i w : ℕ) (x : Tree) → i < length xs → x ≡ get_or xs i x → w ≡ trees_weight (trees (take i xs)) → w + weight_of x ≡ trees_weight (trees (take (i + 1) xs))
heavier xs i w x l e p =
    let P : ℕ → Type 0 = λ j. w + weight_of x ≡ trees_weight (trees (take j xs)) in
    subst P (sym (add-one i)) (omega (arith, weight_suc xs i x l e))

pub one_regular_more : (xs : List Tree) (i : ℕ) (x : Tree) → i < length xs → x ≡ get_or xs i x → IsRegular x → AllRegular (trees (take i xs)) → AllRegular (trees (take (i + 1) xs))
one_regular_more xs i x l e r a =
    let P : ℕ → Type 0 = λ j. AllRegular (trees (take j xs)) in
    subst P (sym (add-one i)) (regular_suc xs i x l e r a)

pub regular_at_end : (xs : List Tree) (i : ℕ) → length xs ≤ i → AllRegular (trees (take i xs)) → AllRegular (trees xs)
regular_at_end xs i l a = let P : List Tree → Type 0 = λ zs. AllRegular (trees zs) in subst P (take_all i xs l) a

-- regular parts are at most as tall as a value may be
pub parts_height : (xs : List Tree) → AllRegular (trees xs) → trees_height (trees xs) ≤ MOST_VALUE_HEIGHT + 1
unfolding AllRegular
parts_height [] a = omega arith
parts_height (x ∷ xs) a = omega (arith, (regular_sizes x a.0).0, parts_height xs a.1)

pub too_long : (m h w : ℕ) → MOST_ELEMENTS < m → sizes_fault m h w ≡ Some TooLong
unfolding sizes_fault
too_long m h w l = grind (arith, nat_tests)

pub compound_too_long : (xs : List Tree) → MOST_ELEMENTS < length xs → size_fault (compound (trees xs)) ≡ Some TooLong
unfolding size_fault
compound_too_long xs h = too_long (count (trees xs)) (trees_height (trees xs)) (trees_weight (trees xs) + 5) (omega (arith, count_trees xs))

-- the sizes of a compound are those of its parts
pub compound_fault : (xs : List Tree) (h w : ℕ) → h ≡ trees_height (trees xs) → w ≡ trees_weight (trees xs) + 5 → sizes_fault (length xs) h w ≡ size_fault (compound (trees xs))
unfolding size_fault
compound_fault xs h w p q = λ i. sizes_fault (sym (count_trees xs) i) (p i) (q i)

pub compound_invariant : (xs : List Tree) (h w : ℕ) → 2 ≤ length xs → AllRegular (trees xs) → h ≡ trees_height (trees xs) → w ≡ trees_weight (trees xs) + 5 → sizes_fault (length xs) h w ≡ None → (h ≡ height_of (compound (trees xs))) × (w ≡ weight_of (compound (trees xs))) × IsRegular (compound (trees xs))
unfolding IsRegular
compound_invariant xs h w two a p q small =
    let s : AreSmall (length xs) h w = small_sizes (length xs) h w small in
    let n = count_trees xs in
    (p, q, ((omega (arith, s.long), omega (arith, s.high), omega (arith, s.heavy)), omega arith, a))

pub text_too_long : (b : List ℕ) → MOST_ELEMENTS < length b → size_fault (text b) ≡ Some TooLong
unfolding size_fault
text_too_long b h = too_long (length b) 0 (length b + 5) h

text_fits : (m : ℕ) → m ≤ MOST_ELEMENTS → sizes_fault m 0 (m + 5) ≡ None
unfolding sizes_fault
text_fits m h = grind (arith, nat_tests)

pub text_small : (b : List ℕ) → length b ≤ MOST_ELEMENTS → size_fault (text b) ≡ None
unfolding size_fault
text_small b h = text_fits (length b) h

pub text_regular : (b : List ℕ) → length b ≤ MOST_ELEMENTS → AreCharacters b → IsRegular (text b)
unfolding IsRegular
text_regular b h a = ((h, omega arith, omega arith), a)

-- what the fields of a text hold
pub text_invariant : (b v : List ℕ) → v ≡ b → length b ≤ MOST_ELEMENTS → AreCharacters b → (◌≡◌ {A = ℕ} 0 0) × (length b + 5 ≡ length v + 5) × IsRegular (text v)
text_invariant b v e h a =
    let P : List ℕ → Type 0 = λ u. (◌≡◌ {A = ℕ} 0 0) × (length b + 5 ≡ length u + 5) × IsRegular (text u) in
    subst P (sym e) (refl, refl, text_regular b h a)
