-- What an operation gives of values is a value.
use Rattle.std.proofs.Common.{◌≡◌, ℕ, zero, suc, ◌+◌, ◌-◌, ◌*◌, ◌/◌, ◌^◌, ◌<◌, ◌≤◌, ℤ, pos, negsuc, unsigned_abs, Bool, true, false, if◌then◌else◌, List, [], ◌∷◌, ◌++◌, length, map, take, drop, Option, Some, None, Result, Ok, Err, refl, sym, ap, subst, arith}
use Rattle.std.specs.Prelude.{nat_lt, nat_le, ◌&&◌, ◌*ℤ◌, replicate, slice_get, cond}
use Rattle.std.specs.List.{AllByRecursion, filter, repeat, slice_split, onto_first}
use Rattle.std.specs.Option.{ok_or}
use Rattle.std.specs.Ordering.{is_eq, is_lt, is_gt}
use Rattle.std.specs.declared.cmp.Ordering.TheVariants.{Less}
use Rattle.std.proofs.lemmas.Bool.Decides.{nat_tests}
use Rattle.std.proofs.lemmas.List.{length-map, length-append, length-replicate, take_all}
use Rattle.std.proofs.lemmas.Int.{ints}
use Rattle.std.specs.Cmp.{int_cmp_is}
use Rattle.std.proofs.lemmas.List.Sums.{count_by-le-length}
use Rattle.std.proofs.Math.Nat.{div-le_self}
use Rattle.abc_num.specs.declared.limits.TheConstants.{MOST_ELEMENTS}
use Rattle.abc_num.specs.declared.number.NumFault.{NumFault}
use Rattle.abc_num.specs.Characters.{IsCharacter, AreCharacters}
use Rattle.abc_num.specs.Number.{Fraction, whole_number, whole_of, IsNumber}
use Rattle.abc_num.proofs.LowestTerms.{bounds}
use Rattle.abc_tree.specs.declared.operations.Op.{Op}
use Rattle.abc_tree.specs.declared.operations.Op.TheVariants as op
use Rattle.abc_value.specs.declared.faults.ValueFault.{ValueFault}
use Rattle.abc_value.specs.declared.faults.ValueFault.TheVariants as value_fault
use Rattle.abc_value.specs.declared.faults.ValueFault.TheVariants.{NoElement}
use Rattle.abc_value.specs.declared.faults.RunFault.{RunFault}
use Rattle.abc_value.specs.Tree.{Tree, Trees, Pairs, number, text, compound, list, table, no_trees, more, no_pairs, pair, trees, pairs, listed, listed_pairs}
use Rattle.abc_value.specs.Order.{order}
use Rattle.abc_value.specs.Parts.{codes_of, keys_of}
use Rattle.abc_value.specs.Printed.{outer}
use Rattle.abc_value.specs.Regular.{IsRegular, IsRising}
use Rattle.abc_value.specs.Sizes.{length_of, count, count_pairs, size_fault}
use Rattle.abc_value.specs.Items.{elements_of, element_at, item_of, if_small, by_fault}
use Rattle.abc_value.proofs.tables.Keys.{keys_ordered}
use Rattle.abc_value.proofs.trees.Making.{text_regular}
use Rattle.abc_value.proofs.printed.Outers.{outer_characters}
use Rattle.abc_value.proofs.printed.Characters.{characters-append}
use Rattle.abc_predef.specs.Aligned.{between_spaces}
use Rattle.abc_predef.specs.Answers.{of_number_answer, of_value_answer}
use Rattle.abc_predef.specs.Characters.{space}
use Rattle.abc_predef.specs.Rows.{number_in, row_of_one, row_of_two}
use Rattle.abc_predef.specs.Texts.{if_whole, if_count, joined, repeated, from_place, first_part, small_letter, capital, stripped, is_space, has_characters, words_of, numbered, split_of}
use Rattle.abc_predef.specs.Trains.{is_better, better, best_with, best_of, extreme_element, least_above, greatest_below, count_of}
use Rattle.abc_predef.proofs.Codes.{regular_codes, characters-repeat, characters-map, short_repeat, characters-stripped, length-stripped, characters-take, characters-drop, take_short, drop_short, length_small}
use Rattle.abc_predef.proofs.Spaces.{between_characters}
use Rattle.abc_predef.proofs.TableKeys.{keys_small}
use Rattle.abc_predef.proofs.Words.{spent, words_small}
use Rattle.abc_meaning.proofs.RegularNumbers as n
use Rattle.abc_meaning.proofs.RegularNumbers.{small_is}
use Rattle.abc_meaning.proofs.RegularValues.{AreAll, ArePairs, empty_regular, elements_regular, keys_are_regular, pairs_rising, number_is, number_of_value, list_is, table_is}

-- ---- answers

number_in_is : (t : Tree) → IsRegular t → IsNumber (number_in t)
number_in_is (number m) h = number_of_value m h
number_in_is (text b) h = small_is 0 (omega arith)
number_in_is (compound ts) h = small_is 0 (omega arith)
number_in_is (list ts) h = small_is 0 (omega arith)
number_in_is (table ps) h = small_is 0 (omega arith)

given : (v w : Tree) → IsRegular v → ◌≡◌ {A = Result Tree RunFault} (Ok v) (Ok w) → IsRegular w
given v w h e = let same : v ≡ w = cc in subst IsRegular same h

given_number : (m : Fraction) (w : Tree) → IsNumber m → ◌≡◌ {A = Result Tree RunFault} (Ok (number m)) (Ok w) → IsRegular w
given_number m w h e = given (number m) w (number_is m h) e

number_answer : (r : Result Fraction NumFault) (w : Tree) → ((m : Fraction) → r ≡ Ok m → IsNumber m) → of_number_answer r ≡ Ok w → IsRegular w
number_answer (Ok m) w h e = given (number m) w (number_is m (h m refl)) e
number_answer (Err f) w h e = cc

value_answer : (r : Result Tree ValueFault) (w : Tree) → ((v : Tree) → r ≡ Ok v → IsRegular v) → of_value_answer r ≡ Ok w → IsRegular w
value_answer (Ok v) w h e = given v w (h v refl) e
value_answer (Err f) w h e = cc

from_answer : (r : Result Tree ValueFault) (w : Tree) → of_value_answer r ≡ Ok w → ((v : Tree) → r ≡ Ok v → IsRegular v) → IsRegular w
from_answer r w e h = value_answer r w h e

made : (v w : Tree) → IsRegular v → ◌≡◌ {A = Result Tree ValueFault} (Ok v) (Ok w) → IsRegular w
made v w h e = let same : v ≡ w = cc in subst IsRegular same h

-- ---- texts

codes_are : (t : Tree) → IsRegular t → AreCharacters (codes_of t)
codes_are t h = (regular_codes t h).0

codes_short : (t : Tree) → IsRegular t → length (codes_of t) ≤ MOST_ELEMENTS
codes_short t h = (regular_codes t h).1

joined_is : (b c : List ℕ) (v : Tree) → AreCharacters b → AreCharacters c → joined b c ≡ Ok v → IsRegular v
joined_is b c v hb hc e = by (nat_lt MOST_ELEMENTS (length b + length c)) refl e
  where
    by : (x : Bool) → nat_lt MOST_ELEMENTS (length b + length c) ≡ x → (if x then Err value_fault.TooLong else Ok (text (b ++ c))) ≡ Ok v → IsRegular v
    by true is e = cc
    by false is e =
        let short : length b + length c ≤ MOST_ELEMENTS = grind (arith, nat_tests) in
        made (text (b ++ c)) v (text_regular (b ++ c) (omega (arith, short, length-append b c)) (characters-append b c hb hc)) e

counted : (o : Option ℤ) (answer : ℕ → Result Tree ValueFault) (v : Tree) → ((k : ℕ) → answer k ≡ Ok v → IsRegular v) → if_whole o (λ whole. if_count whole answer) ≡ Ok v → IsRegular v
counted None answer v h e = cc
counted (Some (pos k)) answer v h e = h k e
counted (Some (negsuc k)) answer v h e = cc

repeated_is : (b : List ℕ) (o : Option ℤ) (v : Tree) → AreCharacters b → repeated b o ≡ Ok v → IsRegular v
repeated_is b o v hb e = counted o _ v (λ k is. by k (nat_lt MOST_ELEMENTS (k * length b)) refl is) e
  where
    by : (k : ℕ) (x : Bool) → nat_lt MOST_ELEMENTS (k * length b) ≡ x → (if x then Err value_fault.TooLong else Ok (text (repeat k b))) ≡ Ok v → IsRegular v
    by k true is e = cc
    by k false is e = made (text (repeat k b)) v (text_regular (repeat k b) (short_repeat k b is) (characters-repeat k b hb)) e

from_place_is : (b : List ℕ) (o : Option ℤ) (v : Tree) → AreCharacters b → length b ≤ MOST_ELEMENTS → from_place b o ≡ Ok v → IsRegular v
from_place_is b o v hb short e = counted o _ v (λ k is. by k (nat_le 1 k && nat_le k (length b + 1)) is) e
  where
    by : (k : ℕ) (x : Bool) → (if x then Ok (text (drop (k - 1) b)) else Err value_fault.OutOfRange) ≡ Ok v → IsRegular v
    by k true e = made (text (drop (k - 1) b)) v (text_regular (drop (k - 1) b) (drop_short (k - 1) b short) (characters-drop (k - 1) b hb)) e
    by k false e = cc

first_part_is : (b : List ℕ) (o : Option ℤ) (v : Tree) → AreCharacters b → length b ≤ MOST_ELEMENTS → first_part b o ≡ Ok v → IsRegular v
first_part_is b o v hb short e = counted o _ v (λ k is. by k (nat_le k (length b)) is) e
  where
    by : (k : ℕ) (x : Bool) → (if x then Ok (text (take k b)) else Err value_fault.OutOfRange) ≡ Ok v → IsRegular v
    by k true e = made (text (take k b)) v (text_regular (take k b) (take_short k b short) (characters-take k b hb)) e
    by k false e = cc

between_length : (l r : ℕ) (b : List ℕ) → length (between_spaces l b r) ≡ l + length b + r
between_length l r b =
    omega (arith, length-append (replicate l space ++ b) (replicate r space), length-append (replicate l space) b, length-replicate l space, length-replicate r space)

-- a text between spaces, up to a length
between_is : (left : ℕ → ℕ) (b : List ℕ) (k : ℕ) → ((pad : ℕ) → left pad ≤ pad) → AreCharacters b → length b ≤ MOST_ELEMENTS → k ≤ MOST_ELEMENTS
    → IsRegular (text (between_spaces (left (k - length b)) b (k - length b - left (k - length b))))
between_is left b k share h long most =
    let pad = k - length b in
    text_regular (between_spaces (left pad) b (pad - left pad)) (omega (arith, between_length (left pad) (pad - left pad) b, share pad)) (between_characters (left pad) (pad - left pad) b h)

aligned_is : (left : ℕ → ℕ) (b : List ℕ) (o : Option ℤ) (v : Tree) → ((pad : ℕ) → left pad ≤ pad) → AreCharacters b
    → (if nat_lt MOST_ELEMENTS (length b) then Err value_fault.TooLong else if_whole o (λ whole. if_count whole (λ k.
    if nat_lt MOST_ELEMENTS k then Err value_fault.TooLong else Ok (text (between_spaces (left (k - length b)) b (k - length b - left (k - length b))))))) ≡ Ok v → IsRegular v
aligned_is left b o v share hb e = by (nat_lt MOST_ELEMENTS (length b)) refl e
  where
    by_count : length b ≤ MOST_ELEMENTS → (k : ℕ) (x : Bool) → nat_lt MOST_ELEMENTS k ≡ x
        → (if x then Err value_fault.TooLong else Ok (text (between_spaces (left (k - length b)) b (k - length b - left (k - length b))))) ≡ Ok v → IsRegular v
    by_count short k true is e = cc
    by_count short k false is e =
        let few : k ≤ MOST_ELEMENTS = grind (arith, nat_tests) in
        made (text (between_spaces (left (k - length b)) b (k - length b - left (k - length b)))) v (between_is left b k share hb short few) e

    by : (x : Bool) → nat_lt MOST_ELEMENTS (length b) ≡ x
        → (if x then Err value_fault.TooLong else if_whole o (λ whole. if_count whole (λ k.
        if nat_lt MOST_ELEMENTS k then Err value_fault.TooLong else Ok (text (between_spaces (left (k - length b)) b (k - length b - left (k - length b))))))) ≡ Ok v → IsRegular v
    by true is e = cc
    by false is e =
        let short : length b ≤ MOST_ELEMENTS = grind (arith, nat_tests) in
        counted o _ v (λ k is. by_count short k (nat_lt MOST_ELEMENTS k) refl is) e

small_letter_is : (c : ℕ) → IsCharacter c → IsCharacter (small_letter c)
small_letter_is c h = grind (arith, nat_tests)

capital_is : (c : ℕ) → IsCharacter c → IsCharacter (capital c)
capital_is c h = grind (arith, nat_tests)

in_case_is : (t : Tree) → IsRegular t → (f : ℕ → ℕ) → ((c : ℕ) → IsCharacter c → IsCharacter (f c)) → IsRegular (text (map f (codes_of t)))
in_case_is t h f each = text_regular (map f (codes_of t)) (omega (arith, length-map (codes_of t) f, codes_short t h)) (characters-map f (codes_of t) each (codes_are t h))

stripped_is : (t : Tree) → IsRegular t → IsRegular (text (stripped (codes_of t)))
stripped_is t h = text_regular (stripped (codes_of t)) (omega (arith, length-stripped (codes_of t), codes_short t h)) (characters-stripped (codes_of t) (codes_are t h))

-- ---- words

abbrev AreWords : List (List ℕ) → Type 0
AreWords bs = AllByRecursion AreCharacters bs

onto_words : (c : ℕ) (bs : List (List ℕ)) → IsCharacter c → AreWords bs → AreWords (onto_first c bs)
onto_words c [] h all = ((h, tt), tt)
onto_words c (b ∷ bs) h all = ((h, all.0), all.1)

split_words : (p : ℕ → Bool) (b : List ℕ) → AreCharacters b → AreWords (slice_split p b)
split_words p [] h = (tt, tt)
split_words p (c ∷ b) h = by (p c) (split_words p b h.1)
  where
    by : (x : Bool) → AreWords (slice_split p b) → AreWords (cond x ([] ∷ slice_split p b) (onto_first c (slice_split p b)))
    by true rest = (tt, rest)
    by false rest = onto_words c (slice_split p b) h.0 rest

-- one more than the characters are spent, and each word but the empty ones spends two or more
onto_spent : (c : ℕ) (bs : List (List ℕ)) → 1 ≤ length bs → spent (onto_first c bs) ≡ suc (spent bs)
onto_spent c [] h = absurd (omega arith)
onto_spent c (b ∷ bs) h = omega arith

onto_some : (c : ℕ) (bs : List (List ℕ)) → 1 ≤ length (onto_first c bs)
onto_some c [] = omega arith
onto_some c (b ∷ bs) = omega arith

split_some : (p : ℕ → Bool) (b : List ℕ) → 1 ≤ length (slice_split p b)
split_some p [] = omega arith
split_some p (c ∷ b) = by (p c)
  where
    by : (x : Bool) → 1 ≤ length (cond x ([] ∷ slice_split p b) (onto_first c (slice_split p b)))
    by true = omega arith
    by false = onto_some c (slice_split p b)

split_spent : (p : ℕ → Bool) (b : List ℕ) → spent (slice_split p b) ≡ length b + 1
split_spent p [] = omega arith
split_spent p (c ∷ b) = by (p c) (split_spent p b)
  where
    by : (x : Bool) → spent (slice_split p b) ≡ length b + 1 → spent (cond x ([] ∷ slice_split p b) (onto_first c (slice_split p b))) ≡ length (c ∷ b) + 1
    by true rest = omega (arith, rest)
    by false rest = omega (arith, rest, onto_spent c (slice_split p b) (split_some p b))

record AreFit (bs ws : List (List ℕ)) : Type 0 where
  words : AreWords bs → AreWords ws
  fewer : spent ws ≤ spent bs
  full : 2 * length ws ≤ spent ws

filtered_fit : (bs : List (List ℕ)) → AreFit bs (filter has_characters bs)
filtered_fit [] = record { words = λ h. tt; fewer = omega arith; full = omega arith }
filtered_fit ([] ∷ bs) = let f = filtered_fit bs in record { words = λ h. f.words h.1; fewer = omega (arith, f.fewer); full = f.full }
filtered_fit ((c ∷ b) ∷ bs) = let f = filtered_fit bs in record { words = λ h. (h.0, f.words h.1); fewer = omega (arith, f.fewer); full = omega (arith, f.full) }

numbered_all : (k : ℕ) (ws : List (List ℕ)) → AreWords ws → spent ws ≤ MOST_ELEMENTS + 1 → k + length ws ≤ 2 ^ 126 → ArePairs (numbered k ws)
numbered_all k [] h s l = tt
numbered_all k (w ∷ ws) h s l = ((number_is (whole_number (pos k)) (small_is k (omega arith)), text_regular w (omega arith) h.0), numbered_all (suc k) ws h.1 (omega arith) (omega arith))

numbered_rising : (k : ℕ) (ws : List (List ℕ)) → IsRising (pairs (numbered k ws))
numbered_rising k [] = tt
numbered_rising k (w ∷ []) = tt
numbered_rising k (v ∷ w ∷ ws) = (next_greater k, numbered_rising (suc k) (w ∷ ws))
  where
    next_greater : (k : ℕ) → order (number (whole_number (pos k))) (number (whole_number (pos (suc k)))) ≡ Less
    next_greater k = sym (int_cmp_is (pos k *ℤ pos 1) (pos (suc k) *ℤ pos 1) Less (omega (arith, ints)))

split_is : (t : Tree) → IsRegular t → IsRegular (split_of (codes_of t))
split_is t h =
    table_is (numbered 1 ws) (numbered_all 1 ws (fit.words (split_words is_space b (codes_are t h))) few many) (numbered_rising 1 ws) (words_small ws fit.full few)
  where
    b : List ℕ
    b = codes_of t

    ws : List (List ℕ)
    ws = words_of b

    fit : AreFit (slice_split is_space b) ws
    fit = filtered_fit (slice_split is_space b)

    few : spent ws ≤ MOST_ELEMENTS + 1
    few = omega (arith, fit.fewer, split_spent is_space b, codes_short t h)

    many : 1 + length ws ≤ 2 ^ 126
    many = omega (arith, fit.full, few)

-- ---- trains

best_with_is : (end : _) (x : Tree) (ys : List Tree) → IsRegular x → AreAll ys → IsRegular (best_with end x ys)
best_with_is end x [] h all = h
best_with_is end x (y ∷ ys) h all = best_with_is end (better end x y) ys (by (is_better end (order y x))) all.1
  where
    by : (b : Bool) → IsRegular (if b then y else x)
    by true = all.0
    by false = h

best_of_is : (end : _) (xs : List Tree) (f : ValueFault) (v : Tree) → AreAll xs → ok_or (best_of end xs) f ≡ Ok v → IsRegular v
best_of_is end [] f v all e = cc
best_of_is end (x ∷ xs) f v all e = made (best_with end x xs) v (best_with_is end x xs all.0 all.1) e

extreme_is : (end : _) (t v : Tree) → AreAll (elements_of t) → extreme_element end t ≡ Ok v → IsRegular v
extreme_is end t v all e = best_of_is end (elements_of t) NoElement v all e

filter_all : (p : Tree → Bool) (xs : List Tree) → AreAll xs → AreAll (filter p xs)
filter_all p [] all = tt
filter_all p (x ∷ xs) all = by (p x) (filter_all p xs all.1)
  where
    by : (b : Bool) → AreAll (filter p xs) → AreAll (cond b (x ∷ filter p xs) (filter p xs))
    by true rest = (all.0, rest)
    by false rest = rest

least_above_is : (e t v : Tree) → AreAll (elements_of t) → least_above e t ≡ Ok v → IsRegular v
least_above_is e t v all is =
    let h : AreAll (filter (λ x. is_gt (order x e)) (elements_of t)) = filter_all (λ x. is_gt (order x e)) (elements_of t) all in
    search (best_of_is, h, is)

greatest_below_is : (e t v : Tree) → AreAll (elements_of t) → greatest_below e t ≡ Ok v → IsRegular v
greatest_below_is e t v all is =
    let h : AreAll (filter (λ x. is_lt (order x e)) (elements_of t)) = filter_all (λ x. is_lt (order x e)) (elements_of t) all in
    search (best_of_is, h, is)

got_is : (xs : List Tree) (k : ℕ) (f : ValueFault) (v : Tree) → AreAll xs → ok_or (slice_get xs k) f ≡ Ok v → IsRegular v
got_is [] k f v all e = cc
got_is (x ∷ xs) zero f v all e = made x v all.0 e
got_is (x ∷ xs) (suc k) f v all e = got_is xs k f v all.1 e

element_is : (xs : List Tree) (o : Option ℤ) (v : Tree) → AreAll xs → element_at xs o ≡ Ok v → IsRegular v
element_is xs None v all e = cc
element_is xs (Some (pos zero)) v all e = cc
element_is xs (Some (pos (suc k))) v all e = got_is xs k value_fault.OutOfRange v all e
element_is xs (Some (negsuc k)) v all e = cc

listed_length : (ts : Trees) → length (listed ts) ≡ count ts
listed_length no_trees = refl
listed_length (more t ts) = ap suc (listed_length ts)

pairs_length : (ps : Pairs) → length (listed_pairs ps) ≡ count_pairs ps
pairs_length no_pairs = refl
pairs_length (pair k a ps) = ap suc (pairs_length ps)

elements_short : (t : Tree) → IsRegular t → length (elements_of t) ≤ MOST_ELEMENTS
elements_short (number m) h = omega arith
elements_short (text b) h = omega (arith, length-map b (λ c. text (c ∷ [])), length_small (text b) h)
elements_short (compound ts) h = omega (arith, listed_length ts, length_small (compound ts) h)
elements_short (list ts) h = omega (arith, listed_length ts, length_small (list ts) h)
elements_short (table ps) h = omega (arith, length-map (listed_pairs ps) (λ p. p.1), pairs_length ps, length_small (table ps) h)

count_small : (e t : Tree) → IsRegular t → count_of e t < 2 ^ 127
count_small e t h = omega (arith, count_by-le-length (λ x. is_eq (order x e)) (elements_of t), elements_short t h)

length_number : (t : Tree) → IsRegular t → IsNumber (whole_number (pos (length_of t)))
length_number t h = small_is (length_of t) (omega (arith, length_small t h))

keys_is : (t : Tree) → IsRegular t → IsRegular (list (trees (keys_of t)))
keys_is (number m) h = empty_regular
keys_is (text b) h = empty_regular
keys_is (compound ts) h = empty_regular
keys_is (list ts) h = empty_regular
keys_is (table ps) h =
    let all = keys_of (table ps) in
    list_is all (list (trees all)) (keys_ordered (listed_pairs ps) (pairs_rising (table ps) h)) (keys_are_regular (table ps) h) (small_made (list (trees all)) (all_keys_small ps h))
  where
    small_made : (t : Tree) → size_fault t ≡ None → if_small t ≡ Ok t
    small_made t e = ap (by_fault t) e

    all_keys_small : (ps : Pairs) → IsRegular (table ps) → size_fault (list (trees (keys_of (table ps)))) ≡ None
    all_keys_small ps h =
        let keys = keys_of (table ps) in
        subst (λ ks. size_fault (list (trees ks)) ≡ None) (take_all (length keys) keys (omega arith)) (keys_small (table ps) (length keys) tt h)

-- ---- the rows

numerator_small : (m : Fraction) → IsNumber m → unsigned_abs m.numerator < 2 ^ 127
numerator_small m h = (bounds m h).0

denominator_small : (m : Fraction) → IsNumber m → m.denominator < 2 ^ 127
denominator_small m h = omega (arith, (bounds m h).1)

pub one_is : (o : Op) (v w : Tree) → IsRegular v → row_of_one o v ≡ Ok w → IsRegular w
one_is op.Plus v w h e = given v w h e
one_is op.Negate v w h e = given_number _ w (n.negative_number (number_in v) (number_in_is v h)) e
one_is op.Numerator v w h e = given_number _ w (n.whole_is (number_in v).numerator (numerator_small (number_in v) (number_in_is v h))) e
one_is op.Denominator v w h e = given_number _ w (small_is (number_in v).denominator (denominator_small (number_in v) (number_in_is v h))) e
one_is op.Size v w h e = given_number _ w (length_number v h) e
one_is op.Abs v w h e = given_number _ w (n.size_number (number_in v) (number_in_is v h)) e
one_is op.Sign v w h e = given_number _ w (n.sign_number (number_in v)) e
one_is op.Floor v w h e = given_number _ w (n.floor_is (number_in v) (number_in_is v h)) e
one_is op.Ceiling v w h e = given_number _ w (n.ceiling_is (number_in v) (number_in_is v h)) e
one_is op.Round v w h e = given_number _ w (n.nearest_is (number_in v) (number_in_is v h)) e
one_is op.Keys v w h e = given (list (trees (keys_of v))) w (keys_is v h) e
one_is op.Least v w h e = let all = elements_regular v h in from_answer _ w e (λ u is. search (extreme_is, all, is))
one_is op.Greatest v w h e = let all = elements_regular v h in from_answer _ w e (λ u is. search (extreme_is, all, is))
one_is op.Lower v w h e = given (text (map small_letter (codes_of v))) w (in_case_is v h small_letter small_letter_is) e
one_is op.Upper v w h e = given (text (map capital (codes_of v))) w (in_case_is v h capital capital_is) e
one_is op.Stripped v w h e = given (text (stripped (codes_of v))) w (stripped_is v h) e
one_is op.Split v w h e = given (split_of (codes_of v)) w (split_is v h) e
one_is _ v w h e = cc

pub two_is : (o : Op) (u v w : Tree) → IsRegular u → IsRegular v → row_of_two o u v ≡ Ok w → IsRegular w
two_is op.Add u v w h k e = number_answer _ w (λ m is. n.sum_number (number_in u) (number_in v) m (number_in_is u h) (number_in_is v k) is) e
two_is op.Subtract u v w h k e = number_answer _ w (λ m is. n.difference_number (number_in u) (number_in v) m (number_in_is u h) (number_in_is v k) is) e
two_is op.Multiply u v w h k e = number_answer _ w (λ m is. n.product_number (number_in u) (number_in v) m (number_in_is u h) (number_in_is v k) is) e
two_is op.Divide u v w h k e = number_answer _ w (λ m is. n.quotient_number (number_in u) (number_in v) m (number_in_is u h) is) e
two_is op.Power u v w h k e = number_answer _ w (λ m is. n.power_number (number_in u) (number_in v) m (number_in_is u h) is) e
two_is op.Join u v w h k e = value_answer (joined (codes_of u) (codes_of v)) w (λ t is. joined_is (codes_of u) (codes_of v) t (codes_are u h) (codes_are v k) is) e
two_is op.Repeat u v w h k e = value_answer (repeated (codes_of u) (whole_of (number_in v))) w (λ t is. repeated_is (codes_of u) (whole_of (number_in v)) t (codes_are u h) is) e
two_is op.Behead u v w h k e = value_answer (from_place (codes_of u) (whole_of (number_in v))) w (λ t is. from_place_is (codes_of u) (whole_of (number_in v)) t (codes_are u h) (codes_short u h) is) e
two_is op.Curtail u v w h k e = value_answer (first_part (codes_of u) (whole_of (number_in v))) w (λ t is. first_part_is (codes_of u) (whole_of (number_in v)) t (codes_are u h) (codes_short u h) is) e
two_is op.AlignLeft u v w h k e = value_answer _ w (λ t is. aligned_is (λ pad. 0) (outer u) (whole_of (number_in v)) t (λ pad. omega arith) (outer_characters u h) is) e
two_is op.Center u v w h k e = value_answer _ w (λ t is. aligned_is (λ pad. pad / 2) (outer u) (whole_of (number_in v)) t (λ pad. div-le_self pad 2) (outer_characters u h) is) e
two_is op.AlignRight u v w h k e = value_answer _ w (λ t is. aligned_is (λ pad. pad) (outer u) (whole_of (number_in v)) t (λ pad. omega arith) (outer_characters u h) is) e
two_is op.Count u v w h k e = given_number _ w (small_is (count_of u v) (count_small u v k)) e
two_is op.RoundTo u v w h k e = number_answer _ w (λ m is. n.rounding_number (number_in u) (number_in v) m is) e
two_is op.Modulo u v w h k e = number_answer _ w (λ m is. n.rest_number (number_in u) (number_in v) m (number_in_is u h) (number_in_is v k) is) e
two_is op.LeastAbove u v w h k e = value_answer (least_above u v) w (λ t is. least_above_is u v t (elements_regular v k) is) e
two_is op.GreatestBelow u v w h k e = value_answer (greatest_below u v) w (λ t is. greatest_below_is u v t (elements_regular v k) is) e
two_is op.Item u v w h k e = value_answer (item_of u (number_in v)) w (λ t is. element_is (elements_of u) (whole_of (number_in v)) t (elements_regular u h) is) e
two_is _ u v w h k e = cc
