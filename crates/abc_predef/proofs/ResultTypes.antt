-- What a row gives has the type of its result.
use Rattle.std.proofs.Common.{◌≡◌, ◌+◌, ◌-◌, ◌*◌, ◌++◌, length, take, drop, ℕ, zero, suc, ℤ, pos, negsuc, Bool, true, false, List, [], ◌∷◌, map, refl, sym, subst, Option, None, Some, Result, Ok, Err, inl, inr, slice_get}
use Rattle.std.specs.Prelude.{cond, ◌&&◌, nat_lt, nat_le, if◌then◌else◌}
use Rattle.std.specs.List.{filter, repeat}
use Rattle.std.specs.Option.{ok_or}
use Rattle.std.specs.Ordering.{is_gt, is_lt}
use Rattle.abc_num.specs.declared.limits.TheConstants.{MOST_ELEMENTS}
use Rattle.abc_num.specs.declared.number.NumFault.{NumFault}
use Rattle.abc_num.specs.declared.types.Ground.{Ground}
use Rattle.abc_num.specs.declared.types.Ground.TheVariants as type
use Rattle.abc_num.specs.Number.{Fraction, whole_of}
use Rattle.abc_num.specs.Types.{IsTrainOf}
use Rattle.abc_tree.specs.declared.operations.Op.{Op}
use Rattle.abc_tree.specs.declared.operations.Op.TheVariants as op
use Rattle.abc_value.specs.declared.faults.RunFault.{RunFault}
use Rattle.abc_value.specs.declared.faults.ValueFault.{ValueFault}
use Rattle.abc_value.specs.declared.faults.ValueFault.TheVariants as fault
use Rattle.abc_value.specs.Tree.{Tree, number, text, compound, list, table, trees, pairs, listed_pairs, no_trees, more, table_of}
use Rattle.abc_value.specs.Items.{elements_of, element_at, item_of}
use Rattle.abc_value.specs.Order.{order}
use Rattle.abc_value.specs.Parts.{pairs_of, keys_of, codes_of}
use Rattle.abc_value.specs.Printed.{outer}
use Rattle.abc_value.specs.Types.{has, all_have, pairs_have}
use Rattle.abc_predef.specs.declared.aligned.Alignment.{Alignment}
use Rattle.abc_predef.specs.declared.aligned.Alignment.TheVariants.{Left, Center, Right}
use Rattle.abc_predef.specs.declared.extremes.Extreme.{Extreme}
use Rattle.abc_predef.specs.declared.extremes.Extreme.TheVariants.{Least, Greatest}
use Rattle.abc_predef.specs.declared.table.Letter.{Letter}
use Rattle.abc_predef.specs.declared.table.Letter.TheVariants as letter
use Rattle.abc_predef.specs.declared.table.Operands.{Operands}
use Rattle.abc_predef.specs.declared.table.Operands.TheVariants.{One, Two}
use Rattle.abc_predef.specs.Aligned.{aligned, padded}
use Rattle.abc_predef.specs.Answers.{of_number_answer, of_value_answer}
use Rattle.abc_predef.specs.Rows.{number_in, row_of_one, row_of_two}
use Rattle.abc_predef.specs.Signatures.{operands, result_of}
use Rattle.abc_predef.specs.Takes.{IsOf}
use Rattle.abc_predef.specs.Texts.{if_whole, if_count, joined, repeated, from_place, first_part, numbered, words_of}
use Rattle.abc_predef.specs.Trains.{is_better, better, best_with, best_of, extreme_element, least_above, greatest_below}
use Rattle.abc_predef.proofs.Typed.{typed_parts, list_of_type, typed_pairs}

-- the elements of a train of e have the type e
characters_typed : (b : List ℕ) → all_have (trees (map (λ c. text (c ∷ [])) b)) type.Text
characters_typed [] = tt
characters_typed (c ∷ b) = (refl, characters_typed b)

keys_typed : (ps : List (Tree × Tree)) (k a : Ground) → pairs_have (pairs ps) k a → all_have (trees (map (λ p. p.0) ps)) k
keys_typed [] k a h = tt
keys_typed (p ∷ ps) k a h = (h.0, keys_typed ps k a h.2)

associates_typed : (ps : List (Tree × Tree)) (k a : Ground) → pairs_have (pairs ps) k a → all_have (trees (map (λ p. p.1) ps)) a
associates_typed [] k a h = tt
associates_typed (p ∷ ps) k a h = (h.1, associates_typed ps k a h.2)

of_text : (t : Tree) → has t type.Text → all_have (trees (elements_of t)) type.Text
of_text (number n) h = tt
of_text (text b) h = characters_typed b
of_text (compound ts) h = let e = h.1 in absurd (cc)
of_text (list no_trees) h = tt
of_text (list (more t ts)) h = let e = h.1 in absurd (cc)
of_text (table ps) h = let e = h.2 in absurd (cc)

of_list : (t : Tree) (e : Ground) → has t (type.List e) → all_have (trees (elements_of t)) e
of_list (number n) e h = tt
of_list (text b) e h = absurd (cc)
of_list (compound ts) e h = typed_parts (compound ts) e h
of_list (list ts) e h = typed_parts (list ts) e h
of_list (table ps) e h = typed_parts (table ps) e h

of_table : (t : Tree) (k e : Ground) → has t (type.Table k e) → all_have (trees (elements_of t)) e
of_table (number n) k e h = tt
of_table (text b) k e h = absurd (cc)
of_table (compound ts) k e h = let i = h.1 in absurd (cc)
of_table (list no_trees) k e h = tt
of_table (list (more t ts)) k e h = let i = h.1 in absurd (cc)
of_table (table ps) k e h = associates_typed (listed_pairs ps) k e (typed_pairs (table ps) k e h)

elements_typed : (t : Tree) (g e : Ground) → IsTrainOf g e → has t g → all_have (trees (elements_of t)) e
elements_typed t g e (inl is) h = subst (all_have (trees (elements_of t))) (sym is.1) (of_text t (subst (has t) is.0 h))
elements_typed t g e (inr (inl is)) h = of_list t e (subst (has t) is h)
elements_typed t g e (inr (inr is)) h = of_table t is.0 e (subst (has t) is.1 h)

-- a value, if there is one, has the type
abbrev FoundHas : Option Tree → Ground → Type 0
FoundHas None g = Unit {0}
FoundHas (Some t) g = has t g

abbrev AnswerHas : Result Tree ValueFault → Ground → Type 0
AnswerHas (Ok t) g = has t g
AnswerHas (Err f) g = Unit {0}

found_answer : (o : Option Tree) (f : ValueFault) (g : Ground) → FoundHas o g → AnswerHas (ok_or o f) g
found_answer None f g h = tt
found_answer (Some t) f g h = h

-- the best of some values of one type has it, and so has one at a place
one_of : (b : Bool) (x y : Tree) (g : Ground) → has x g → has y g → has (cond b y x) g
one_of true x y g h i = i
one_of false x y g h i = h

best_with_typed : (end : Extreme) (x : Tree) (xs : List Tree) (g : Ground) → has x g → all_have (trees xs) g → has (best_with end x xs) g
best_with_typed end x [] g h all = h
best_with_typed end x (y ∷ ys) g h all = best_with_typed end (better end x y) ys g (one_of (is_better end (order y x)) x y g h all.0) all.1

best_typed : (end : Extreme) (xs : List Tree) (g : Ground) → all_have (trees xs) g → FoundHas (best_of end xs) g
best_typed end [] g h = tt
best_typed end (x ∷ xs) g h = best_with_typed end x xs g h.0 h.1

kept : (b : Bool) (x : Tree) (xs : List Tree) (g : Ground) → has x g → all_have (trees xs) g → all_have (trees (cond b (x ∷ xs) xs)) g
kept true x xs g h all = (h, all)
kept false x xs g h all = all

filter_typed : (p : Tree → Bool) (xs : List Tree) (g : Ground) → all_have (trees xs) g → all_have (trees (filter p xs)) g
filter_typed p [] g h = tt
filter_typed p (x ∷ xs) g h = kept (p x) x (filter p xs) g h.0 (filter_typed p xs g h.1)

got_typed : (xs : List Tree) (n : ℕ) (g : Ground) → all_have (trees xs) g → FoundHas (slice_get xs n) g
got_typed [] n g h = tt
got_typed (x ∷ xs) zero g h = h.0
got_typed (x ∷ xs) (suc n) g h = got_typed xs n g h.1

item_typed : (xs : List Tree) (i : Option ℤ) (g : Ground) → all_have (trees xs) g → AnswerHas (element_at xs i) g
item_typed xs None g h = tt
item_typed xs (Some (pos zero)) g h = tt
item_typed xs (Some (pos (suc n))) g h = found_answer (slice_get xs n) fault.OutOfRange g (got_typed xs n g h)
item_typed xs (Some (negsuc n)) g h = tt

-- tests before an answer
unless : (b : Bool) (f : ValueFault) (r : Result Tree ValueFault) (g : Ground) → AnswerHas r g → AnswerHas (cond b (Err f) r) g
unless true f r g h = tt
unless false f r g h = h

provided : (b : Bool) (f : ValueFault) (r : Result Tree ValueFault) (g : Ground) → AnswerHas r g → AnswerHas (cond b r (Err f)) g
provided true f r g h = h
provided false f r g h = tt

joined_typed : (b c : List ℕ) → AnswerHas (joined b c) type.Text
joined_typed b c = unless (nat_lt MOST_ELEMENTS (length b + length c)) fault.TooLong (Ok (text (b ++ c))) type.Text refl

repeated_typed : (b : List ℕ) (n : Option ℤ) → AnswerHas (repeated b n) type.Text
repeated_typed b None = tt
repeated_typed b (Some (pos n)) = unless (nat_lt MOST_ELEMENTS (n * length b)) fault.TooLong (Ok (text (repeat n b))) type.Text refl
repeated_typed b (Some (negsuc n)) = tt

from_place_typed : (b : List ℕ) (n : Option ℤ) → AnswerHas (from_place b n) type.Text
from_place_typed b None = tt
from_place_typed b (Some (pos n)) = provided (nat_le 1 n && nat_le n (length b + 1)) fault.OutOfRange (Ok (text (drop (n - 1) b))) type.Text refl
from_place_typed b (Some (negsuc n)) = tt

first_part_typed : (b : List ℕ) (n : Option ℤ) → AnswerHas (first_part b n) type.Text
first_part_typed b None = tt
first_part_typed b (Some (pos n)) = provided (nat_le n (length b)) fault.OutOfRange (Ok (text (take n b))) type.Text refl
first_part_typed b (Some (negsuc n)) = tt

abbrev to_length : Alignment → List ℕ → ℕ → Result Tree ValueFault
to_length a b n = if nat_lt MOST_ELEMENTS n then Err fault.TooLong else Ok (text (padded a b n))

abbrev to_count : Alignment → List ℕ → Option ℤ → Result Tree ValueFault
to_count a b n = if_whole n (λ whole. if_count whole (to_length a b))

padded_typed : (a : Alignment) (b : List ℕ) (n : Option ℤ) → AnswerHas (to_count a b n) type.Text
padded_typed a b None = tt
padded_typed a b (Some (pos n)) = unless (nat_lt MOST_ELEMENTS n) fault.TooLong (Ok (text (padded a b n))) type.Text refl
padded_typed a b (Some (negsuc n)) = tt

aligned_typed : (a : Alignment) (b : List ℕ) (n : Option ℤ) → AnswerHas (aligned a b n) type.Text
aligned_typed a b n = unless (nat_lt MOST_ELEMENTS (length b)) fault.TooLong (to_count a b n) type.Text (padded_typed a b n)

-- texts with the keys n, n + 1, ..
numbered_typed : (n : ℕ) (bs : List (List ℕ)) → pairs_have (pairs (numbered n bs)) type.Number type.Text
numbered_typed n [] = tt
numbered_typed n (b ∷ bs) = (refl, refl, numbered_typed (suc n) bs)

table_of_type : (ps : List (Tree × Tree)) (k a : Ground) → pairs_have (pairs ps) k a → has (table_of ps) (type.Table k a)
table_of_type [] k a h = inr (k, a, refl)
table_of_type (p ∷ ps) k a h = (k, a, refl, h)

-- answers of rows
abbrev a_value : Tree → Result Tree RunFault
a_value t = Ok t

ok_is : (t v : Tree) → a_value t ≡ a_value v → t ≡ v
ok_is t v e = cc

given : (t v : Tree) (g : Ground) → has t g → a_value t ≡ a_value v → has v g
given t v g h e = subst (λ u. has u g) (ok_is t v e) h

number_given : (r : Result Fraction NumFault) (v : Tree) → of_number_answer r ≡ Ok v → has v type.Number
number_given (Ok n) v e = given (number n) v type.Number refl e
number_given (Err f) v e = absurd (cc)

value_given : (r : Result Tree ValueFault) (v : Tree) (g : Ground) → AnswerHas r g → of_value_answer r ≡ Ok v → has v g
value_given (Ok t) v g h e = given t v g h e
value_given (Err f) v g h e = absurd (cc)

as_number : (e : Ground) (v : Tree) → has v type.Number → IsOf letter.Number e v
as_number e v h = (type.Number, refl, h)

as_text : (e : Ground) (v : Tree) → has v type.Text → IsOf letter.Text e v
as_text e v h = (type.Text, refl, h)

as_element : (e : Ground) (v : Tree) → has v e → IsOf letter.Element e v
as_element e v h = (e, refl, h)

-- a row of one place, by its operands and its result
abbrev KeepsOne : Operands → Option Letter → Ground → Tree → Result Tree RunFault → Type 0
KeepsOne (One l) (Some m) e x w = (v : Tree) → IsOf l e x → w ≡ Ok v → IsOf m e v
KeepsOne (One l) None e x w = Unit {0}
KeepsOne (Two k l) m e x w = Unit {0}

one_keeps : (o : Op) (e : Ground) (x : Tree) → KeepsOne (operands o) (result_of o) e x (row_of_one o x)
one_keeps op.Plus e x = λ v h w. subst (IsOf letter.Number e) (ok_is x v w) h
one_keeps op.Negate e x = λ v h w. as_number e v (given _ v _ refl w)
one_keeps op.Numerator e x = λ v h w. as_number e v (given _ v _ refl w)
one_keeps op.Denominator e x = λ v h w. as_number e v (given _ v _ refl w)
one_keeps op.Size e x = λ v h w. as_number e v (given _ v _ refl w)
one_keeps op.Abs e x = λ v h w. as_number e v (given _ v _ refl w)
one_keeps op.Sign e x = λ v h w. as_number e v (given _ v _ refl w)
one_keeps op.Floor e x = λ v h w. as_number e v (given _ v _ refl w)
one_keeps op.Ceiling e x = λ v h w. as_number e v (given _ v _ refl w)
one_keeps op.Round e x = λ v h w. as_number e v (given _ v _ refl w)
one_keeps op.Keys e x = λ v h w. (type.List e, refl, given _ v _ (list_of_type (keys_of x) e (keys_typed (pairs_of x) e h.1.0 (typed_pairs x e h.1.0 (subst (has x) h.1.1 h.2)))) w)
one_keeps op.Least e x = λ v h w. as_element e v (value_given (extreme_element Least x) v e (found_answer _ _ e (best_typed Least (elements_of x) e (elements_typed x h.0 e h.1 h.2))) w)
one_keeps op.Greatest e x = λ v h w. as_element e v (value_given (extreme_element Greatest x) v e (found_answer _ _ e (best_typed Greatest (elements_of x) e (elements_typed x h.0 e h.1 h.2))) w)
one_keeps op.Lower e x = λ v h w. as_text e v (given _ v _ refl w)
one_keeps op.Upper e x = λ v h w. as_text e v (given _ v _ refl w)
one_keeps op.Stripped e x = λ v h w. as_text e v (given _ v _ refl w)
one_keeps op.Split e x = λ v h w. (type.Table type.Number type.Text, refl, given _ v _ (table_of_type _ _ _ (numbered_typed 1 (words_of (codes_of x)))) w)
one_keeps _ e x = tt

-- a row of two places
abbrev KeepsTwo : Operands → Option Letter → Ground → Tree → Tree → Result Tree RunFault → Type 0
KeepsTwo (One l) m e x y w = Unit {0}
KeepsTwo (Two k l) None e x y w = Unit {0}
KeepsTwo (Two k l) (Some m) e x y w = (v : Tree) → IsOf k e x → IsOf l e y → w ≡ Ok v → IsOf m e v

two_keep : (o : Op) (e : Ground) (x y : Tree) → KeepsTwo (operands o) (result_of o) e x y (row_of_two o x y)
two_keep op.Add e x y = λ v h i w. as_number e v (number_given _ v w)
two_keep op.Subtract e x y = λ v h i w. as_number e v (number_given _ v w)
two_keep op.Multiply e x y = λ v h i w. as_number e v (number_given _ v w)
two_keep op.Divide e x y = λ v h i w. as_number e v (number_given _ v w)
two_keep op.Power e x y = λ v h i w. as_number e v (number_given _ v w)
two_keep op.RoundTo e x y = λ v h i w. as_number e v (number_given _ v w)
two_keep op.Modulo e x y = λ v h i w. as_number e v (number_given _ v w)
two_keep op.Count e x y = λ v h i w. as_number e v (given _ v _ refl w)
two_keep op.Join e x y = λ v h i w. as_text e v (value_given _ v _ (joined_typed (codes_of x) (codes_of y)) w)
two_keep op.Repeat e x y = λ v h i w. as_text e v (value_given _ v _ (repeated_typed (codes_of x) (whole_of (number_in y))) w)
two_keep op.Behead e x y = λ v h i w. as_text e v (value_given _ v _ (from_place_typed (codes_of x) (whole_of (number_in y))) w)
two_keep op.Curtail e x y = λ v h i w. as_text e v (value_given _ v _ (first_part_typed (codes_of x) (whole_of (number_in y))) w)
two_keep op.AlignLeft e x y = λ v h i w. as_text e v (value_given _ v _ (aligned_typed Left (outer x) (whole_of (number_in y))) w)
two_keep op.Center e x y = λ v h i w. as_text e v (value_given _ v _ (aligned_typed Center (outer x) (whole_of (number_in y))) w)
two_keep op.AlignRight e x y = λ v h i w. as_text e v (value_given _ v _ (aligned_typed Right (outer x) (whole_of (number_in y))) w)
two_keep op.LeastAbove e x y = λ v h i w. as_element e v (value_given (least_above x y) v e
    (found_answer _ _ e (best_typed Least _ e (filter_typed (λ z. is_gt (order z x)) (elements_of y) e (elements_typed y i.0 e i.1 i.2)))) w)
two_keep op.GreatestBelow e x y = λ v h i w. as_element e v (value_given (greatest_below x y) v e
    (found_answer _ _ e (best_typed Greatest _ e (filter_typed (λ z. is_lt (order z x)) (elements_of y) e (elements_typed y i.0 e i.1 i.2)))) w)
two_keep op.Item e x y = λ v h i w. as_element e v (value_given (item_of x (number_in y)) v e
    (item_typed (elements_of x) (whole_of (number_in y)) e (elements_typed x h.0 e h.1 h.2)) w)
two_keep _ e x y = tt

pub one_by : (o : Op) (l m : Letter) (e : Ground) (x v : Tree) → operands o ≡ One l → result_of o ≡ Some m → IsOf l e x → row_of_one o x ≡ Ok v → IsOf m e v
one_by o l m e x v one some h w =
    subst (λ c. KeepsOne c (Some m) e x (row_of_one o x)) one (subst (λ c. KeepsOne (operands o) c e x (row_of_one o x)) some (one_keeps o e x)) v h w

pub two_by : (o : Op) (k l m : Letter) (e : Ground) (x y v : Tree) → operands o ≡ Two k l → result_of o ≡ Some m → IsOf k e x → IsOf l e y
    → row_of_two o x y ≡ Ok v → IsOf m e v
two_by o k l m e x y v two some h i w =
    subst (λ c. KeepsTwo c (Some m) e x y (row_of_two o x y)) two (subst (λ c. KeepsTwo (operands o) c e x y (row_of_two o x y)) some (two_keep o e x y)) v h i w
