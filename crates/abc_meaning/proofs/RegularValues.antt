-- What is made of values is a value: compounds, texts, displays, ranges, parts and changed parts.
use Rattle.std.proofs.Common.{◌≡◌, ◌⊎◌, inl, inr, ℕ, zero, suc, ◌+◌, ◌<◌, ◌≤◌, ℤ, pos, negsuc, ◌+ℤ◌, ◌-ℤ◌, ◌≤ℤ◌, unsigned_abs, ◌^◌, Bool, true, false, if◌then◌else◌, List, [], ◌∷◌, length, map, get_or, Option, Some, None, Result, Ok, Err, refl, sym, ◌∙◌, ap, subst, arith}
use Rattle.std.specs.Prelude.{nat_le, nat_eq, ◌-◌, is_some}
use Rattle.std.specs.Option.{option_map}
use Rattle.std.specs.List.{AllByRecursion, remove}
use Rattle.std.specs.Option.{IfSome}
use Rattle.std.specs.Ordering.{match_ordering, is_eq}
use Rattle.std.specs.declared.cmp.Ordering.{Ordering}
use Rattle.std.specs.declared.cmp.Ordering.TheVariants.{Less, Equal, Greater}
use Rattle.std.proofs.lemmas.Bool.Decides.{nat_tests}
use Rattle.std.proofs.lemmas.Int.{ints}
use Rattle.abc_num.specs.declared.limits.TheConstants.{FIRST_CHARACTER, LAST_CHARACTER}
use Rattle.abc_num.specs.Characters.{IsCharacter, AreCharacters, are_characters}
use Rattle.abc_num.specs.Number.{Fraction, whole_number, whole_of, IsNumber}
use Rattle.abc_num.proofs.Characters.{tested_characters}
use Rattle.abc_num.proofs.LowestTerms.{bounds}
use Rattle.abc_value.specs.declared.faults.ValueFault.{ValueFault}
use Rattle.abc_value.specs.declared.faults.RunFault.{RunFault}
use Rattle.abc_value.specs.declared.faults.RunFault.TheVariants.{NoElement, NoKey}
use Rattle.abc_value.specs.Tree.{Tree, Trees, Pairs, number, text, compound, list, table, empty, no_trees, more, no_pairs, pair, trees, pairs, listed, listed_pairs, table_of}
use Rattle.abc_value.specs.Order.{order}
use Rattle.abc_value.specs.Parts.{parts_of, pairs_of, keys_of}
use Rattle.abc_value.specs.Sizes.{size_fault, trees_height, trees_weight, pairs_height, pairs_weight}
use Rattle.abc_value.specs.Regular.{IsRegular, AllRegular, AllRegularPairs, IsOrdered, IsRising}
use Rattle.abc_value.specs.Forms.{Form, Forms, a_compound, a_list, a_table, anything, both, form_of, forms_of, joined, common_key, common_associate}
use Rattle.abc_value.specs.Changes.{add, in_order, with_pair, with_new, associate_of, placed, without, without_key, is_element}
use Rattle.abc_value.specs.Items.{if_small, by_fault, elements_of, range_of, number_range, character_range, numbers_from, characters_from, count_of}
use Rattle.abc_value.proofs.lists.Adding.{small_sizes, add_ordered}
use Rattle.abc_value.proofs.tables.Collecting.{table_fault}
use Rattle.abc_value.proofs.trees.Making.{compound_fault, compound_invariant, text_regular}
use Rattle.abc_value.proofs.tables.Pairing.{with_pair_rising, remove_loses, Loses}
use Rattle.abc_value.proofs.lists.Ranges.{list_fault, list_invariant, numbers_ordered, characters_ordered}
use Rattle.abc_value.proofs.lists.Removing.{taken_invariant}
use Rattle.abc_value.proofs.trees.Rows.{trees_listed, pairs_listed}
use Rattle.abc_value.proofs.tables.Tables.{table_regular, lost_invariant}
use Rattle.abc_meaning.specs.State.{Step, key, faulty}
use Rattle.abc_meaning.specs.Fits.{fits_list, fits_table}
use Rattle.abc_meaning.specs.Changing.{Change, puts, inserts, removes, deletes, Changed, sized, if_fit, changed_to, with_associate, changed}
use Rattle.abc_meaning.proofs.RegularNumbers.{whole_is}

abbrev pub AreAll : List Tree → Type 0
AreAll vs = AllByRecursion IsRegular vs

abbrev pub ArePairs : List (Tree × Tree) → Type 0
ArePairs ps = AllByRecursion (λ p. IsRegular p.0 × IsRegular p.1) ps

-- ---- rows of values

to_row : (xs : List Tree) → AreAll xs → AllRegular (trees xs)
unfolding AllRegular
to_row [] h = tt
to_row (x ∷ xs) h = (h.0, to_row xs h.1)

from_row : (ts : Trees) → AllRegular ts → AreAll (listed ts)
unfolding AllRegular
from_row no_trees h = tt
from_row (more t ts) h = (h.0, from_row ts h.1)

to_pairs : (ps : List (Tree × Tree)) → ArePairs ps → AllRegularPairs (pairs ps)
unfolding AllRegularPairs
to_pairs [] h = tt
to_pairs (p ∷ ps) h = (h.0.0, h.0.1, to_pairs ps h.1)

from_pairs : (ps : Pairs) → AllRegularPairs ps → ArePairs (listed_pairs ps)
unfolding AllRegularPairs
from_pairs no_pairs h = tt
from_pairs (pair k a ps) h = ((h.0, h.1), from_pairs ps h.2)

keys_all : (ps : List (Tree × Tree)) → ArePairs ps → AreAll (map (λ p. p.0) ps)
keys_all [] h = tt
keys_all (p ∷ ps) h = (h.0.0, keys_all ps h.1)

associates_all : (ps : List (Tree × Tree)) → ArePairs ps → AreAll (map (λ p. p.1) ps)
associates_all [] h = tt
associates_all (p ∷ ps) h = (h.0.1, associates_all ps h.1)

-- ---- parts

pub empty_regular : IsRegular empty
unfolding IsRegular AllRegular
empty_regular = ((omega arith, omega arith, omega arith), tt, tt)

pub parts_regular : (t : Tree) → IsRegular t → AreAll (parts_of t)
unfolding IsRegular
parts_regular (number n) h = tt
parts_regular (text b) h = tt
parts_regular (compound ts) h = from_row ts h.2
parts_regular (list ts) h = from_row ts h.2
parts_regular (table ps) h = associates_all (listed_pairs ps) (from_pairs ps h.3)

pub pairs_regular : (t : Tree) → IsRegular t → ArePairs (pairs_of t)
unfolding IsRegular
pairs_regular (number n) h = tt
pairs_regular (text b) h = tt
pairs_regular (compound ts) h = tt
pairs_regular (list ts) h = tt
pairs_regular (table ps) h = from_pairs ps h.3

pub pairs_rising : (t : Tree) → IsRegular t → IsRising (pairs (pairs_of t))
unfolding IsRegular
pairs_rising (number n) h = tt
pairs_rising (text b) h = tt
pairs_rising (compound ts) h = tt
pairs_rising (list ts) h = tt
pairs_rising (table ps) h = subst IsRising (sym (pairs_listed ps)) h.2

pub keys_are_regular : (t : Tree) → IsRegular t → AreAll (keys_of t)
keys_are_regular t h = keys_all (pairs_of t) (pairs_regular t h)

pub one_character : (c : ℕ) → IsCharacter c → IsRegular (text (c ∷ []))
one_character c h = text_regular (c ∷ []) (omega arith) (h, tt)

characters_all : (b : List ℕ) → AreCharacters b → AreAll (map (λ c. text (c ∷ [])) b)
characters_all [] h = tt
characters_all (c ∷ b) h = (one_character c h.0, characters_all b h.1)

codes_regular : (b : List ℕ) → IsRegular (text b) → AreCharacters b
unfolding IsRegular
codes_regular b h = h.1

pub elements_regular : (t : Tree) → IsRegular t → AreAll (elements_of t)
elements_regular (number n) h = parts_regular (number n) h
elements_regular (text b) h = characters_all b (codes_regular b h)
elements_regular (compound ts) h = parts_regular (compound ts) h
elements_regular (list ts) h = parts_regular (list ts) h
elements_regular (table ps) h = parts_regular (table ps) h

pub found_regular : (k : Tree) (ps : List (Tree × Tree)) → ArePairs ps → IfSome (associate_of k ps) IsRegular
found_regular k [] h = tt
found_regular k (p ∷ ps) h = by (is_eq (order p.0 k)) (found_regular k ps h.1)
  where
    by : (b : Bool) → IfSome (associate_of k ps) IsRegular → IfSome (if b then Some p.1 else associate_of k ps) IsRegular
    by true rest = h.0.1
    by false rest = rest

-- ---- what is made

-- a value that is small was made
pub made_small : (t v : Tree) → if_small t ≡ Ok v → (size_fault t ≡ None → IsRegular t) → IsRegular v
made_small t v e h = by (size_fault t) refl e
  where
    by : (o : Option ValueFault) → size_fault t ≡ o → by_fault t o ≡ Ok v → IsRegular v
    by None is e = let same : t ≡ v = cc in subst IsRegular same (h is)
    by (Some f) is e = cc

pub compound_is : (vs : List Tree) (v : Tree) → AreAll vs → nat_le 2 (length vs) ≡ true → if_small (compound (trees vs)) ≡ Ok v → IsRegular v
compound_is vs v all two e =
    made_small (compound (trees vs)) v e (λ small. (compound_invariant vs (trees_height (trees vs)) (trees_weight (trees vs) + 5) (grind (arith, nat_tests)) (to_row vs all) refl refl
    (compound_fault vs (trees_height (trees vs)) (trees_weight (trees vs) + 5) refl refl ∙ small)).2)

pub text_is : (b : List ℕ) (v : Tree) → are_characters b ≡ true → if_small (text b) ≡ Ok v → IsRegular v
unfolding size_fault
text_is b v are e = made_small (text b) v e (λ small. text_regular b (small_sizes (length b) 0 (length b + 5) small).long (tested_characters b are))

pub list_is : (xs : List Tree) (v : Tree) → IsOrdered (trees xs) → AreAll xs → if_small (list (trees xs)) ≡ Ok v → IsRegular v
list_is xs v o all e =
    made_small (list (trees xs)) v e (λ small. (list_invariant xs (trees_height (trees xs)) (trees_weight (trees xs) + 5) o (to_row xs all) refl refl
    (compound_fault xs (trees_height (trees xs)) (trees_weight (trees xs) + 5) refl refl ∙ list_fault (trees xs) ∙ small)).2)

in_order_ordered : (es : List Tree) → IsOrdered (trees (in_order es))
in_order_ordered [] = tt
in_order_ordered (e ∷ es) = add_ordered e (in_order es) (in_order_ordered es)

add_all : (e : Tree) (xs : List Tree) → IsRegular e → AreAll xs → AreAll (add e xs)
add_all e [] h all = (h, tt)
add_all e (x ∷ xs) h all = by (order x e) (add_all e xs h all.1)
  where
    by : (o : Ordering) → AreAll (add e xs) → AreAll (match_ordering o (x ∷ add e xs) (e ∷ x ∷ xs) (e ∷ x ∷ xs))
    by Less rest = (all.0, rest)
    by Equal rest = (h, all)
    by Greater rest = (h, all)

in_order_all : (es : List Tree) → AreAll es → AreAll (in_order es)
in_order_all [] h = tt
in_order_all (e ∷ es) h = add_all e (in_order es) h.0 (in_order_all es h.1)

pub list_display_is : (es : List Tree) (v : Tree) → AreAll es → if_small (list (trees (in_order es))) ≡ Ok v → IsRegular v
list_display_is es v all e = list_is (in_order es) v (in_order_ordered es) (in_order_all es all) e

-- ---- tables

with_pair_all : (k a : Tree) (ps : List (Tree × Tree)) → IsRegular k → IsRegular a → ArePairs ps → ArePairs (with_pair k a ps)
with_pair_all k a [] hk ha all = ((hk, ha), tt)
with_pair_all k a (p ∷ ps) hk ha all = by (order p.0 k) (with_pair_all k a ps hk ha all.1)
  where
    by : (o : Ordering) → ArePairs (with_pair k a ps) → ArePairs (match_ordering o (p ∷ with_pair k a ps) ((k, a) ∷ ps) ((k, a) ∷ p ∷ ps))
    by Less rest = (all.0, rest)
    by Equal rest = ((hk, ha), all.1)
    by Greater rest = ((hk, ha), all)

rising_with : (k a : Tree) (ps : List (Tree × Tree)) → IsRegular k → ArePairs ps → IsRising (pairs ps) → IsRising (pairs (with_pair k a ps))
rising_with k a ps hk all o = with_pair_rising k a ps hk (to_pairs ps all) o

placed_all : (ps : List (Tree × Tree)) → ArePairs ps → ArePairs (placed ps) × IsRising (pairs (placed ps))
placed_all [] h = (tt, tt)
placed_all (p ∷ ps) h = by (associate_of p.0 (placed ps)) (placed_all ps h.1)
  where
    by : (o : Option Tree) → ArePairs (placed ps) × IsRising (pairs (placed ps)) → ArePairs (with_new p.0 p.1 o (placed ps)) × IsRising (pairs (with_new p.0 p.1 o (placed ps)))
    by None rest = (with_pair_all p.0 p.1 (placed ps) h.0.0 h.0.1 rest.0, rising_with p.0 p.1 (placed ps) h.0.0 rest.0 rest.1)
    by (Some a) rest = rest

some_table_is : (ps : List (Tree × Tree)) → 1 ≤ length ps → ArePairs ps → IsRising (pairs ps) → size_fault (table (pairs ps)) ≡ None → IsRegular (table (pairs ps))
some_table_is ps some all o small =
    table_regular ps some o (to_pairs ps all) (small_sizes (length ps) (pairs_height (pairs ps)) (pairs_weight (pairs ps) + 5) (table_fault ps (pairs_height (pairs ps)) (pairs_weight (pairs ps) + 5) refl refl ∙ small))

pub table_is : (ps : List (Tree × Tree)) → ArePairs ps → IsRising (pairs ps) → size_fault (table_of ps) ≡ None → IsRegular (table_of ps)
table_is [] all o small = empty_regular
table_is (p ∷ ps) all o small = some_table_is (p ∷ ps) (omega arith) all o small

pub table_display_is : (ps : List (Tree × Tree)) (v : Tree) → ArePairs ps → if_small (table_of (placed ps)) ≡ Ok v → IsRegular v
table_display_is ps v all e = let p = placed_all ps all in made_small (table_of (placed ps)) v e (λ small. table_is (placed ps) p.0 p.1 small)

-- ---- ranges

pub number_is : (n : Fraction) → IsNumber n → IsRegular (number n)
unfolding IsRegular
number_is n h = h

pub number_of_value : (n : Fraction) → IsRegular (number n) → IsNumber n
unfolding IsRegular
number_of_value n h = h

abbrev IsWithin : ℤ → Type 0
IsWithin p = unsigned_abs p < 2 ^ 127

between : (p q z : ℤ) → IsWithin p → IsWithin q → p ≤ℤ z → z ≤ℤ q → IsWithin z
between p q (pos n) hp hq a b = by q hq b
  where
    by : (q : ℤ) → IsWithin q → pos n ≤ℤ q → n < 2 ^ 127
    by (pos m) hq b = omega (arith, ints)
    by (negsuc m) hq b = absurd (omega (arith, ints))
between p q (negsuc n) hp hq a b = by p hp a
  where
    by : (p : ℤ) → IsWithin p → p ≤ℤ negsuc n → suc n < 2 ^ 127
    by (pos m) hp a = absurd (omega (arith, ints))
    by (negsuc m) hp a = omega (arith, ints)

numbers_all : (p q : ℤ) (n : ℕ) → IsWithin p → IsWithin q → (p +ℤ pos n) ≤ℤ (q +ℤ pos 1) → AreAll (numbers_from p n)
numbers_all p q zero hp hq l = tt
numbers_all p q (suc zero) hp hq l = (number_is (whole_number p) (whole_is p hp), tt)
numbers_all p q (suc (suc n)) hp hq l =
    (number_is (whole_number p) (whole_is p hp), numbers_all (p +ℤ pos 1) q (suc n) (between p q (p +ℤ pos 1) hp hq (omega (arith, ints)) (omega (arith, ints))) hq (omega (arith, ints)))

whole_within : (x : Fraction) (p : ℤ) → IsNumber x → whole_of x ≡ Some p → IsWithin p
whole_within x p h e = by (nat_eq x.denominator 1) e
  where
    by : (b : Bool) → (if b then Some x.numerator else None) ≡ Some p → IsWithin p
    by true e = let same : x.numerator ≡ p = cc in subst IsWithin same (bounds x h).0
    by false e = cc

counted_all : (p q : ℤ) → IsWithin p → IsWithin q → AreAll (numbers_from p (count_of (q -ℤ p +ℤ pos 1)))
counted_all p q hp hq = by (q -ℤ p +ℤ pos 1) refl
  where
    by : (z : ℤ) → q -ℤ p +ℤ pos 1 ≡ z → AreAll (numbers_from p (count_of z))
    by (pos n) e = numbers_all p q n hp hq (omega (arith, ints, e))
    by (negsuc n) e = tt

number_range_is : (x y : Fraction) (v : Tree) → IsNumber x → IsNumber y → number_range (whole_of x) (whole_of y) ≡ Ok v → IsRegular v
number_range_is x y v hx hy e = by (whole_of x) (whole_of y) refl refl e
  where
    by : (o u : Option ℤ) → whole_of x ≡ o → whole_of y ≡ u → number_range o u ≡ Ok v → IsRegular v
    by (Some p) (Some q) a b e = list_is (numbers_from p (count_of (q -ℤ p +ℤ pos 1))) v (numbers_ordered p (count_of (q -ℤ p +ℤ pos 1))) (counted_all p q (whole_within x p hx a) (whole_within y q hy b)) e
    by None u a b e = cc
    by (Some p) None a b e = cc

characters_from_all : (c n : ℕ) → FIRST_CHARACTER ≤ c → c + n ≤ LAST_CHARACTER + 1 → AreAll (characters_from c n)
characters_from_all c zero l h = tt
characters_from_all c (suc n) l h = (one_character c (l, omega arith), characters_from_all (c + 1) n (omega arith) (omega arith))

character_range_is : (b c : List ℕ) (v : Tree) → AreCharacters b → AreCharacters c → character_range b c ≡ Ok v → IsRegular v
character_range_is (b ∷ []) (c ∷ []) v hb hc e = list_is (characters_from b (c + 1 - b)) v (characters_ordered b (c + 1 - b)) (by (c + 1 - b) refl) e
  where
    by : (n : ℕ) → c + 1 - b ≡ n → AreAll (characters_from b n)
    by zero h = tt
    by (suc n) h = characters_from_all b (suc n) hb.0.0 (omega (arith, h, hc.0.1))
character_range_is [] c v hb hc e = cc
character_range_is (b ∷ d ∷ bs) c v hb hc e = cc
character_range_is (b ∷ []) [] v hb hc e = cc
character_range_is (b ∷ []) (c ∷ d ∷ cs) v hb hc e = cc

pub range_is : (p q v : Tree) → IsRegular p → IsRegular q → range_of p q ≡ Ok v → IsRegular v
range_is (number x) (number y) v hp hq e = number_range_is x y v (number_of_value x hp) (number_of_value y hq) e
range_is (text b) (text c) v hp hq e = character_range_is b c v (codes_regular b hp) (codes_regular c hq) e
range_is (number x) (text c) v hp hq e = cc
range_is (number x) (compound ts) v hp hq e = cc
range_is (number x) (list ts) v hp hq e = cc
range_is (number x) (table ps) v hp hq e = cc
range_is (text b) (number y) v hp hq e = cc
range_is (text b) (compound ts) v hp hq e = cc
range_is (text b) (list ts) v hp hq e = cc
range_is (text b) (table ps) v hp hq e = cc
range_is (compound ts) q v hp hq e = cc
range_is (list ts) q v hp hq e = cc
range_is (table ps) q v hp hq e = cc

-- ---- an element or a pair fewer

picked : {X : Type 0} (xs : List X) (n : ℕ) (d : X) → n < length xs → get_or xs n d ≡ get_or xs n (get_or xs n d)
picked [] n d h = absurd (omega arith)
picked (x ∷ xs) zero d h = refl
picked (x ∷ xs) (suc n) d h = picked xs n d (omega arith)

-- the list as it was, or without the element at a place
record IsFewer {X : Type 0} (xs ys : List X) : Type 0 where
  place : ℕ
  inside : place < length xs
  is : remove xs place ≡ ys

further : {X : Type 0} (x : X) (xs ys : List X) → (xs ≡ ys) ⊎ IsFewer xs ys → (x ∷ xs ≡ x ∷ ys) ⊎ IsFewer (x ∷ xs) (x ∷ ys)
further x xs ys (inl e) = inl (ap (λ zs. x ∷ zs) e)
further x xs ys (inr f) = inr (record { place = suc f.place; inside = (let h = f.inside in omega arith); is = ap (λ zs. x ∷ zs) f.is })

without_is : (v : Tree) (xs : List Tree) → (xs ≡ without v xs) ⊎ IsFewer xs (without v xs)
without_is v [] = inl refl
without_is v (x ∷ xs) = by (is_eq (order x v)) (without_is v xs)
  where
    by : (b : Bool) → (xs ≡ without v xs) ⊎ IsFewer xs (without v xs) → (x ∷ xs ≡ (if b then xs else x ∷ without v xs)) ⊎ IsFewer (x ∷ xs) (if b then xs else x ∷ without v xs)
    by true rest = inr (record { place = 0; inside = omega arith; is = refl })
    by false rest = further x xs (without v xs) rest

without_key_is : (k : Tree) (ps : List (Tree × Tree)) → (ps ≡ without_key k ps) ⊎ IsFewer ps (without_key k ps)
without_key_is k [] = inl refl
without_key_is k (p ∷ ps) = by (is_eq (order p.0 k)) (without_key_is k ps)
  where
    by : (b : Bool) → (ps ≡ without_key k ps) ⊎ IsFewer ps (without_key k ps) → (p ∷ ps ≡ (if b then ps else p ∷ without_key k ps)) ⊎ IsFewer (p ∷ ps) (if b then ps else p ∷ without_key k ps)
    by true rest = inr (record { place = 0; inside = omega arith; is = refl })
    by false rest = further p ps (without_key k ps) rest

fewer_elements : (xs : List Tree) (n : ℕ) (d : Tree) → n < length xs → IsRegular (list (trees xs)) → IsRegular (list (trees (remove xs n)))
fewer_elements xs n d inside old = (taken_invariant (get_or xs n d) xs (remove xs n) n _ _ _ refl inside (picked xs n d inside) old refl refl refl).2

list_without : (v : Tree) (xs : List Tree) → IsRegular (list (trees xs)) → IsRegular (list (trees (without v xs)))
list_without v xs old = elim (without_is v xs) [
  | inl e ↦ subst (λ ys. IsRegular (list (trees ys))) e old
  | inr f ↦ subst (λ ys. IsRegular (list (trees ys))) f.is (fewer_elements xs f.place v f.inside old)
]

fewer_pairs : (ps : List (Tree × Tree)) (n : ℕ) (d : Tree × Tree) → n < length ps → IsRegular (table (pairs ps)) → IsRegular (table_of (remove ps n))
fewer_pairs ps n d inside old = by (remove ps n) refl
  where
    loses : Loses (get_or ps n d) ps (remove ps n)
    loses = remove_loses (get_or ps n d) ps n inside (picked ps n d inside)

    by : (qs : List (Tree × Tree)) → remove ps n ≡ qs → IsRegular (table_of qs)
    by [] e = empty_regular
    by (q ∷ qs) e =
        let several : length ps ≡ 1 → ⊥ = (λ one. absurd (omega (arith, loses.size, ap length e, one))) in
        subst (λ rs. IsRegular (table (pairs rs))) e (lost_invariant (get_or ps n d) ps (remove ps n) n _ _ _ refl inside (picked ps n d inside) several old refl refl refl).2

table_without : (k : Tree) (t : Tree) → IsRegular t → IsRegular (table_of (without_key k (pairs_of t)))
table_without k (number n) h = empty_regular
table_without k (text b) h = empty_regular
table_without k (compound ts) h = empty_regular
table_without k (list ts) h = empty_regular
table_without k (table no_pairs) h = empty_regular
table_without k (table (pair l a ps)) h = elim (without_key_is k ((l, a) ∷ listed_pairs ps)) [
  | inl e ↦ subst (λ qs. IsRegular (table_of qs)) e old
  | inr f ↦ subst (λ qs. IsRegular (table_of qs)) f.is (fewer_pairs ((l, a) ∷ listed_pairs ps) f.place (l, a) f.inside old)
]
  where
    old : IsRegular (table (pairs ((l, a) ∷ listed_pairs ps)))
    old = subst (λ qs. IsRegular (table (pair l a qs))) (sym (pairs_listed ps)) h

-- ---- changed parts

fit_then : (fit : Bool) (c : Changed) (v : Tree) → if_fit fit c ≡ Ok (Some v) → (fit ≡ true) × (c ≡ Ok (Some v))
fit_then true c v e = (refl, e)
fit_then false c v e = cc

sized_then : (r : Result Tree ValueFault) (v : Tree) → sized r ≡ Ok (Some v) → r ≡ Ok v
sized_then (Ok w) v e = let same : w ≡ v = cc in ap Ok same
sized_then (Err f) v e = cc

-- what a list fits is ordered
no_list : (f : Form) (o : Option Form) → ((s : Form) → joined (Some f) (Some (a_list s)) ≡ None) → is_some (joined (Some f) (option_map a_list o)) ≡ true → ⊥
no_list f None h e = cc
no_list f (Some s) h e = let k : is_some (joined (Some f) (Some (a_list s))) ≡ false = ap is_some (h s) in absurd (true_false (sym e ∙ k))
  where
    true_false : true ≡ false → ⊥
    true_false e = cc

list_ordered : (ts : Trees) → IsRegular (list ts) → IsOrdered ts
unfolding IsRegular
list_ordered ts h = h.1

parts_ordered : (t v : Tree) → IsRegular t → fits_list t v ≡ true → IsOrdered (trees (parts_of t))
parts_ordered (number n) v h e = tt
parts_ordered (text b) v h e = tt
parts_ordered (list ts) v h e = subst IsOrdered (sym (trees_listed ts)) (list_ordered ts h)
parts_ordered (compound ts) v h e = by (forms_of ts) e
  where
    by : (o : Option Forms) → is_some (joined (option_map a_compound o) (option_map a_list (form_of v))) ≡ true → IsOrdered (trees (listed ts))
    by None e = cc
    by (Some fs) e = absurd (no_list (a_compound fs) (form_of v) (λ s. refl) e)
parts_ordered (table ps) v h e = by (common_key (Some anything) ps) (common_associate (Some anything) ps) e
  where
    by : (o u : Option Form) → is_some (joined (both a_table o u) (option_map a_list (form_of v))) ≡ true → IsOrdered (trees (parts_of (table ps)))
    by None u e = cc
    by (Some k) None e = cc
    by (Some k) (Some a) e = absurd (no_list (a_table k a) (form_of v) (λ s. refl) e)

abbrev HasChange : Change → Type 0
HasChange (puts v) = IsRegular v
HasChange (inserts v) = IsRegular v
HasChange (removes v) = IsRegular v
HasChange deletes = Unit {0}

inserted_is : (t v w : Tree) → IsRegular t → IsRegular v → fits_list t v ≡ true → if_small (list (trees (add v (parts_of t)))) ≡ Ok w → IsRegular w
inserted_is t v w ht hv fit e = list_is (add v (parts_of t)) w (add_ordered v (parts_of t) (parts_ordered t v ht fit)) (add_all v (parts_of t) hv (parts_regular t ht)) e

-- the list of a value's parts, which is a list
removed_is : (t v : Tree) → IsRegular t → fits_list t v ≡ true → IsRegular (list (trees (without v (parts_of t))))
removed_is t v ht fit = by t ht fit
  where
    by : (t : Tree) → IsRegular t → fits_list t v ≡ true → IsRegular (list (trees (without v (parts_of t))))
    by (number n) ht fit = empty_regular
    by (text b) ht fit = empty_regular
    by (list ts) ht fit = list_without v (listed ts) (subst (λ us. IsRegular (list us)) (sym (trees_listed ts)) ht)
    by (compound ts) ht fit = absurd (not_compound (forms_of ts) fit)
      where
        not_compound : (o : Option Forms) → is_some (joined (option_map a_compound o) (option_map a_list (form_of v))) ≡ true → ⊥
        not_compound None e = cc
        not_compound (Some fs) e = no_list (a_compound fs) (form_of v) (λ s. refl) e
    by (table ps) ht fit = absurd (not_table (common_key (Some anything) ps) (common_associate (Some anything) ps) fit)
      where
        not_table : (o u : Option Form) → is_some (joined (both a_table o u) (option_map a_list (form_of v))) ≡ true → ⊥
        not_table None u e = cc
        not_table (Some k) None e = cc
        not_table (Some k) (Some a) e = no_list (a_table k a) (form_of v) (λ s. refl) e

changed_to_is : (c : Change) (missing : RunFault) (old : Option Tree) (w : Tree) → HasChange c → IfSome old IsRegular → changed_to c missing old ≡ Ok (Some w) → IsRegular w
changed_to_is (puts v) missing old w hc ho e = let same : v ≡ w = cc in subst IsRegular same hc
changed_to_is (inserts v) missing (Some t) w hc ho e =
    let f = fit_then (fits_list t v) (sized (if_small (list (trees (add v (parts_of t)))))) w e in
    inserted_is t v w ho hc f.0 (sized_then (if_small (list (trees (add v (parts_of t))))) w f.1)
changed_to_is (inserts v) missing None w hc ho e = cc
changed_to_is (removes v) missing (Some t) w hc ho e =
    let f = fit_then (fits_list t v) _ w e in
    by (is_element v (parts_of t)) f.0 f.1
  where
    by : (b : Bool) → fits_list t v ≡ true → (if b then Ok (Some (list (trees (without v (parts_of t))))) else Err (faulty NoElement)) ≡ Ok (Some w) → IsRegular w
    by true fit e = let same : list (trees (without v (parts_of t))) ≡ w = cc in subst IsRegular same (removed_is t v ho fit)
    by false fit e = cc
changed_to_is (removes v) missing None w hc ho e = cc
changed_to_is deletes missing (Some t) w hc ho e = cc
changed_to_is deletes missing None w hc ho e = cc

associated_is : (k t w : Tree) (c : Changed) → IsRegular k → IsRegular t → ((a : Tree) → c ≡ Ok (Some a) → IsRegular a) → with_associate k t c ≡ Ok (Some w) → IsRegular w
associated_is k t w (Ok (Some a)) hk ht h e =
    let f = fit_then (fits_table t k (form_of a)) (sized (if_small (table (pairs (with_pair k a (pairs_of t)))))) w e in
    let all = with_pair_all k a (pairs_of t) hk (h a refl) (pairs_regular t ht) in
    made_small (table (pairs (with_pair k a (pairs_of t)))) w (sized_then (if_small (table (pairs (with_pair k a (pairs_of t))))) w f.1)
    (some_table_is (with_pair k a (pairs_of t)) (some k a (pairs_of t)) all (rising_with k a (pairs_of t) hk (pairs_regular t ht) (pairs_rising t ht)))
  where
    some : (k a : Tree) (ps : List (Tree × Tree)) → 1 ≤ length (with_pair k a ps)
    some k a [] = omega arith
    some k a (p ∷ ps) = by (order p.0 k)
      where
        by : (o : Ordering) → 1 ≤ length (match_ordering o (p ∷ with_pair k a ps) ((k, a) ∷ ps) ((k, a) ∷ p ∷ ps))
        by Less = omega arith
        by Equal = omega arith
        by Greater = omega arith
associated_is k t w (Ok None) hk ht h e = let same : table_of (without_key k (pairs_of t)) ≡ w = cc in subst IsRegular same (table_without k t ht)
associated_is k t w (Err stop) hk ht h e = cc

abbrev HasStep : Step → Type 0
HasStep (key k) = IsRegular k

pub changed_is : (c : Change) (missing : RunFault) (steps : List Step) (old : Option Tree) (w : Tree) → HasChange c → AllByRecursion HasStep steps → IfSome old IsRegular → changed c missing steps old ≡ Ok (Some w) → IsRegular w
changed_is c missing [] old w hc hs ho e = changed_to_is c missing old w hc ho e
changed_is c missing (key k ∷ steps) None w hc hs ho e = cc
changed_is c missing (key k ∷ steps) (Some t) w hc hs ho e =
    let f = fit_then (fits_table t k (Some anything)) (with_associate k t (changed c NoKey steps (associate_of k (pairs_of t)))) w e in
    associated_is k t w (changed c NoKey steps (associate_of k (pairs_of t))) hs.0 ho
    (λ a is. changed_is c NoKey steps (associate_of k (pairs_of t)) a hc hs.1 (found_regular k (pairs_of t) (pairs_regular t ho)) is) f.1
