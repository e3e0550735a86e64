-- A list with one element more.
use Rattle.std.proofs.Common.{◌≡◌, ◌≢◌, ℕ, ◌+◌, ◌≤◌, max, List, [], ◌∷◌, length, refl, sym, ap, ◌∙◌, subst, arith, None}
use Rattle.std.proofs.lemmas.Bool.{le-ltb}
use Rattle.std.proofs.lemmas.Bool.Decides.{nat_tests}
use Rattle.std.specs.declared.cmp.Ordering.{Ordering}
use Rattle.std.specs.declared.cmp.Ordering.TheVariants.{Less, Equal, Greater}
use Rattle.std.specs.Ordering.{match_ordering, ordering_reverse}
use Rattle.abc_num.specs.declared.limits.TheConstants.{MOST_ELEMENTS, MOST_VALUE_HEIGHT, MOST_WEIGHT}
use Rattle.abc_value.specs.Tree.{Tree, Trees, list, trees, no_trees, more}
use Rattle.abc_value.specs.Order.{order}
use Rattle.abc_value.specs.Sizes.{height_of, weight_of, length_of, trees_height, trees_weight, sizes_fault, size_fault}
use Rattle.abc_value.specs.Regular.{IsOrdered, IsRegular, AllRegular}
use Rattle.abc_value.specs.Parts.{parts_of}
use Rattle.abc_value.specs.Changes.{add}
use Rattle.abc_value.proofs.ordering.OrderLaws.{order-reverse}
use Rattle.abc_value.proofs.lists.Placing.{less_not_greater}
use Rattle.abc_value.proofs.trees.Rows.{listed_trees, count_trees}

-- what stands in the list with e
pub record Adds (e : Tree) (xs ys : List Tree) : Type 0 where
  pub size : length ys ≡ length xs + 1
  pub height : trees_height (trees ys) ≡ max (height_of e + 1) (trees_height (trees xs))
  pub weight : trees_weight (trees ys) ≡ weight_of e + trees_weight (trees xs)
  pub regular : IsRegular e → AllRegular (trees xs) → AllRegular (trees ys)

front : (e : Tree) (xs : List Tree) → Adds e xs (e ∷ xs)
unfolding AllRegular
front e xs = record { size = omega arith; height = omega arith; weight = omega arith; regular = λ h k. (h, k) }

later : (e x : Tree) (xs ys : List Tree) → Adds e xs ys → Adds e (x ∷ xs) (x ∷ ys)
unfolding AllRegular
later e x xs ys a = record { size = omega (arith, a.size); height = omega (arith, a.height); weight = omega (arith, a.weight); regular = λ h k. (k.0, a.regular h k.1) }

by_answer : (e x : Tree) (xs : List Tree) (r : Ordering) → Adds e xs (add e xs) → Adds e (x ∷ xs) (match_ordering r (x ∷ add e xs) (e ∷ x ∷ xs) (e ∷ x ∷ xs))
by_answer e x xs Less a = later e x xs (add e xs) a
by_answer e x xs Equal a = front e (x ∷ xs)
by_answer e x xs Greater a = front e (x ∷ xs)

pub add_adds : (e : Tree) (xs : List Tree) → Adds e xs (add e xs)
add_adds e [] = front e []
add_adds e (x ∷ xs) = by_answer e x xs (order x e) (add_adds e xs)

pub not_less_turned : (r s : Ordering) → s ≡ ordering_reverse r → r ≢ Less → s ≢ Greater
not_less_turned Less s e h k = h refl
not_less_turned Equal s e h k = let p : Equal ≡ Greater = sym e ∙ k in cc
not_less_turned Greater s e h k = let p : Less ≡ Greater = sym e ∙ k in cc

-- e stays behind x
rising_behind : (e x : Tree) (xs : List Tree) → order x e ≢ Greater → IsOrdered (trees (x ∷ xs)) → IsOrdered (trees (add e xs)) → IsOrdered (trees (x ∷ add e xs))
rising_behind e x [] h k r = (h, tt)
rising_behind e x (y ∷ ys) h k r = at (order y e) r
  where
    at : (o : Ordering) → IsOrdered (trees (match_ordering o (y ∷ add e ys) (e ∷ y ∷ ys) (e ∷ y ∷ ys))) → IsOrdered (trees (x ∷ match_ordering o (y ∷ add e ys) (e ∷ y ∷ ys) (e ∷ y ∷ ys)))
    at Less r = (k.0, r)
    at Equal r = (h, r)
    at Greater r = (h, r)

pub tail_ordered : (t : Tree) (ts : Trees) → IsOrdered (more t ts) → IsOrdered ts
tail_ordered t no_trees h = tt
tail_ordered t (more u us) h = h.1

rising_by : (e x : Tree) (xs : List Tree) (o : Ordering) → order x e ≡ o → IsOrdered (trees (x ∷ xs)) → IsOrdered (trees (add e xs)) → IsOrdered (trees (match_ordering o (x ∷ add e xs) (e ∷ x ∷ xs) (e ∷ x ∷ xs)))
rising_by e x xs Less q h r = rising_behind e x xs (less_not_greater _ q) h r
rising_by e x xs Equal q h r = (not_less_turned (order x e) (order e x) (order-reverse e x) (λ k. let p : Equal ≡ Less = sym q ∙ k in cc), h)
rising_by e x xs Greater q h r = (not_less_turned (order x e) (order e x) (order-reverse e x) (λ k. let p : Greater ≡ Less = sym q ∙ k in cc), h)

pub add_ordered : (e : Tree) (xs : List Tree) → IsOrdered (trees xs) → IsOrdered (trees (add e xs))
add_ordered e [] h = tt
add_ordered e (x ∷ xs) h = rising_by e x xs (order x e) refl h (add_ordered e xs (tail_ordered x (trees xs) h))

module _ (e : Tree) (xs : List Tree) where
  long : length xs + 1 ≡ length_of (list (trees (add e xs)))
  long = omega (arith, (add_adds e xs).size, count_trees (add e xs))

  high : max (height_of (list (trees xs))) (height_of e + 1) ≡ height_of (list (trees (add e xs)))
  high = omega (arith, (add_adds e xs).height)

  heavy : weight_of (list (trees xs)) + weight_of e ≡ weight_of (list (trees (add e xs)))
  heavy = omega (arith, (add_adds e xs).weight)

-- the sizes that `insert` computes are those of the list with e
pub added_fault : (e t : Tree) (xs : List Tree) (n h w : ℕ) → list (trees xs) ≡ t → n ≡ length xs → h ≡ max (height_of t) (height_of e + 1) → w ≡ weight_of t + weight_of e → sizes_fault (n + 1) h w ≡ size_fault (list (trees (add e (parts_of t))))
unfolding size_fault
added_fault e t xs n h w is p q r =
    let P : Tree → Type 0 = λ u. sizes_fault (length xs + 1) (max (height_of u) (height_of e + 1)) (weight_of u + weight_of e) ≡ size_fault (list (trees (add e (parts_of u)))) in
    let Q : List Tree → Type 0 = λ ys. sizes_fault (length xs + 1) (max (height_of (list (trees xs))) (height_of e + 1)) (weight_of (list (trees xs)) + weight_of e) ≡ size_fault (list (trees (add e ys))) in
    (λ i. sizes_fault (p i + 1) (q i) (r i)) ∙ subst P is (subst Q (sym (listed_trees xs)) (λ i. sizes_fault (long e xs i) (high e xs i) (heavy e xs i)))

-- the sizes are within their bounds
pub record AreSmall (m h w : ℕ) : Type 0 where
  pub long : m ≤ MOST_ELEMENTS
  pub high : h ≤ MOST_VALUE_HEIGHT
  pub heavy : w ≤ MOST_WEIGHT

pub small_sizes : (m h w : ℕ) → sizes_fault m h w ≡ None → AreSmall m h w
unfolding sizes_fault
small_sizes m h w e = grind (arith, nat_tests)

pub no_fault : (m h w : ℕ) → m ≤ MOST_ELEMENTS → h ≤ MOST_VALUE_HEIGHT → w ≤ MOST_WEIGHT → sizes_fault m h w ≡ None
unfolding sizes_fault
no_fault m h w a b c = rw (le-ltb MOST_ELEMENTS m a, le-ltb MOST_VALUE_HEIGHT h b, le-ltb MOST_WEIGHT w c) refl

-- what the fields of a list hold after e has joined it
pub added_invariant : (e : Tree) (xs ys : List Tree) (h w : ℕ) → ys ≡ add e xs → IsRegular e → IsRegular (list (trees xs)) → h ≡ max (height_of (list (trees xs))) (height_of e + 1) → w ≡ weight_of (list (trees xs)) + weight_of e → sizes_fault (length xs + 1) h w ≡ None → (h ≡ height_of (list (trees ys))) × (w ≡ weight_of (list (trees ys))) × IsRegular (list (trees ys))
unfolding IsRegular
added_invariant e xs ys h w is r old p q small =
    let s : AreSmall (length xs + 1) h w = small_sizes (length xs + 1) h w small in
    let P : List Tree → Type 0 = λ zs. (h ≡ height_of (list (trees zs))) × (w ≡ weight_of (list (trees zs))) × IsRegular (list (trees zs)) in
    subst P (sym is) (p ∙ high e xs, q ∙ heavy e xs, ((omega (arith, s.long, long e xs), omega (arith, s.high, p ∙ high e xs), omega (arith, s.heavy, q ∙ heavy e xs)), add_ordered e xs old.1, (add_adds e xs).regular r old.2))

pub added_is : (e t : Tree) (xs ys : List Tree) → list (trees xs) ≡ t → ys ≡ add e xs → list (trees ys) ≡ list (trees (add e (parts_of t)))
added_is e t xs ys is h = ap (λ zs. list (trees zs)) (h ∙ ap (add e) (sym (listed_trees xs) ∙ ap parts_of is))

-- the elements of a list that is a value are in order, and values
pub list_parts : (xs : List Tree) (t : Tree) → t ≡ list (trees xs) → IsRegular t → IsOrdered (trees xs) × AllRegular (trees xs)
unfolding IsRegular
list_parts xs t e h = let h' = subst IsRegular e h in (h'.1, h'.2)
