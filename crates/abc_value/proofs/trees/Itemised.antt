-- Elements by their number.
use Rattle.std.proofs.Common.{◌≡◌, ◌≢◌, ℕ, zero, suc, ◌<◌, ◌≤◌, ℤ, pos, negsuc, List, [], ◌∷◌, length, map, get_or, slice_get, refl, sym, ap, ◌∙◌, subst, arith, Option, Some, None, Result, Ok, Err, inl, inr, nat_lt, true, false, if◌then◌else◌}
use Rattle.std.specs.Prelude.{IfOk, IfErr}
use Rattle.std.specs.Option.{ok_or}
use Rattle.std.proofs.lemmas.List.{length-map}
use Rattle.std.proofs.lemmas.Option.{slice_get_read}
use Rattle.std.proofs.lemmas.Bool.{cases_lt}
use Rattle.std.proofs.lemmas.Bool.Decides.{nat_tests}
use Rattle.abc_num.specs.Number.{Fraction, whole_of}
use Rattle.abc_value.specs.declared.faults.ValueFault.{ValueFault}
use Rattle.abc_value.specs.declared.faults.ValueFault.TheVariants.{NoElement, NoKey, NotWhole, OutOfRange, TooLong, TooDeep, TooLarge, Memory}
use Rattle.abc_value.specs.Tree.{Tree, Trees, Pairs, number, text, compound, list, table, no_trees, more, no_pairs, pair, pairs, listed, listed_pairs}
use Rattle.abc_value.specs.Sizes.{count, count_pairs, length_of, size_fault, IsMakingOf}
use Rattle.abc_value.specs.Regular.{IsRegular, IsCharacter, AreCharacters}
use Rattle.abc_value.specs.Items.{IsAnswer, elements_of, element_at, place_in, item_of, IsTrain}
use Rattle.std.specs.Option.{option_map}
use Rattle.abc_value.specs.declared.value.Entry.{Entry}
use Rattle.abc_value.specs.View.{as_pair}
use Rattle.abc_value.proofs.trees.Rows.{nth_of_associates}

-- what an element's place says of the element
pub record IsFound (xs : List Tree) (w : Option ℤ) (k : ℕ) : Type 0 where
  pub inside : k < length xs
  pub answer : element_at xs w ≡ ok_or (slice_get xs k) OutOfRange

by_test : (xs : List Tree) (i k : ℕ) → Ok k ≡ (if nat_lt i (length xs) then Ok i else Err OutOfRange) → IsFound xs (Some (pos (suc i))) k
by_test xs i k e = elim (cases_lt i (length xs)) [
  | inl l ↦ (let t : nat_lt i (length xs) ≡ true = grind (arith, nat_tests) in let f = rw t at e in let same : k ≡ i = cc in
      record { inside = omega arith; answer = ap (λ n. ok_or (slice_get xs n) OutOfRange) (sym same) })
  | inr l ↦ (let t : nat_lt i (length xs) ≡ false = grind (arith, nat_tests) in let f = rw t at e in absurd (cc))
]

pub found : (xs : List Tree) (w : Option ℤ) (k : ℕ) → Ok k ≡ place_in (length xs) w → IsFound xs w k
found xs None k e = absurd (cc)
found xs (Some (pos zero)) k e = absurd (cc)
found xs (Some (pos (suc i))) k e = by_test xs i k e
found xs (Some (negsuc i)) k e = absurd (cc)

past_end : (xs : List Tree) (i : ℕ) → length xs ≤ i → slice_get xs i ≡ None
past_end [] i h = refl
past_end (x ∷ xs) zero h = absurd (omega arith)
past_end (x ∷ xs) (suc i) h = past_end xs i (omega arith)

fault_by_test : (xs : List Tree) (i : ℕ) (f : ValueFault) → Err f ≡ (if nat_lt i (length xs) then Ok i else Err OutOfRange) → ok_or (slice_get xs i) OutOfRange ≡ Err f
fault_by_test xs i f e = elim (cases_lt i (length xs)) [
  | inl l ↦ (let t : nat_lt i (length xs) ≡ true = grind (arith, nat_tests) in let g = rw t at e in absurd (cc))
  | inr l ↦ (let t : nat_lt i (length xs) ≡ false = grind (arith, nat_tests) in let g = rw t at e in let same : f ≡ OutOfRange = cc in ap (λ o. ok_or o OutOfRange) (past_end xs i l) ∙ ap Err (sym same))
]

pub not_found : (xs : List Tree) (w : Option ℤ) (f : ValueFault) → Err f ≡ place_in (length xs) w → element_at xs w ≡ Err f
not_found xs None f e = let same : f ≡ NotWhole = cc in ap Err (sym same)
not_found xs (Some (pos zero)) f e = let same : f ≡ OutOfRange = cc in ap Err (sym same)
not_found xs (Some (pos (suc i))) f e = fault_by_test xs i f e
not_found xs (Some (negsuc i)) f e = let same : f ≡ OutOfRange = cc in ap Err (sym same)

-- a copy answers the value that is copied
pub copy_answer : (a : Result Tree ValueFault) (t : Tree) (r : Result Tree ValueFault) → a ≡ Ok t → IfOk r (λ v. v ≡ t) → IfErr r (λ f. f ≡ Memory) → IsAnswer a r
copy_answer a t (Ok v) e h k = inl (ap Ok h ∙ sym e)
copy_answer a t (Err f) e h k = inr (ap Err k)

pub only_memory : (t : Tree) (f : ValueFault) → size_fault t ≡ None → (f ≢ Memory → size_fault t ≡ Some f) → f ≡ Memory
only_memory t Memory n h = refl
only_memory t NoElement n h = let k = h (λ e. cc) in absurd (cc)
only_memory t NoKey n h = let k = h (λ e. cc) in absurd (cc)
only_memory t OutOfRange n h = let k = h (λ e. cc) in absurd (cc)
only_memory t NotWhole n h = let k = h (λ e. cc) in absurd (cc)
only_memory t TooLong n h = let k = h (λ e. cc) in absurd (cc)
only_memory t TooDeep n h = let k = h (λ e. cc) in absurd (cc)
only_memory t TooLarge n h = let k = h (λ e. cc) in absurd (cc)

-- making a small value answers it
pub small_answer : (a : Result Tree ValueFault) (t : Tree) (r : Result Tree ValueFault) → a ≡ Ok t → size_fault t ≡ None → IfOk r (λ v. v ≡ t) → IsMakingOf t r → IsAnswer a r
small_answer a t (Ok v) e n h m = inl (ap Ok h ∙ sym e)
small_answer a t (Err f) e n h m = inr (ap Err (only_memory t f n m))

pub element_is : (xs : List Tree) (w : Option ℤ) (k : ℕ) (x : Tree) → IsFound xs w k → slice_get xs k ≡ Some x → element_at xs w ≡ Ok x
element_is xs w k x i e = i.answer ∙ ap (λ o. ok_or o OutOfRange) e

pub characters_at : (b : List ℕ) (k : ℕ) (d : ℕ) → AreCharacters b → k < length b → IsCharacter (get_or b k d)
characters_at [] k d a h = absurd (omega arith)
characters_at (c ∷ cs) zero d a h = a.0
characters_at (c ∷ cs) (suc k) d a h = characters_at cs k d a.1 (omega arith)

pub text_characters : (b : List ℕ) (t : Tree) → t ≡ text b → IsRegular t → AreCharacters b
unfolding IsRegular
text_characters b t e r = let r' = subst IsRegular e r in r'.1

pub character_at : (b : List ℕ) (k d : ℕ) → k < length b → slice_get (map (λ c. text (c ∷ [])) b) k ≡ Some (text (get_or b k d ∷ []))
character_at [] k d h = absurd (omega arith)
character_at (c ∷ cs) zero d h = refl
character_at (c ∷ cs) (suc k) d h = character_at cs k d (omega arith)

pub elements_count : (t : Tree) → IsTrain t → length_of t ≡ length (elements_of t)
elements_count (number n) h = absurd h
elements_count (compound ts) h = absurd h
elements_count (text b) h = sym (length-map b (λ c. text (c ∷ [])))
elements_count (list ts) h = row_count ts
  where
    row_count : (ts : Trees) → count ts ≡ length (listed ts)
    row_count no_trees = refl
    row_count (more t ts) = ap suc (row_count ts)
elements_count (table ps) h = pairs_count ps
  where
    pairs_count : (ps : Pairs) → count_pairs ps ≡ length (map (λ (p : Tree × Tree). p.1) (listed_pairs ps))
    pairs_count no_pairs = refl
    pairs_count (pair k a ps) = ap suc (pairs_count ps)

-- the place that was found is one of the elements
pub found_in : (t : Tree) (i : Fraction) (n k : ℕ) → IsTrain t → n ≡ length_of t → Ok k ≡ place_in n (whole_of i) → IsFound (elements_of t) (whole_of i) k
found_in t i n k h e f = found (elements_of t) (whole_of i) k (f ∙ ap (λ m. place_in m (whole_of i)) (e ∙ elements_count t h))

pub fault_in : (t : Tree) (i : Fraction) (n : ℕ) (f : ValueFault) → IsTrain t → n ≡ length_of t → Err f ≡ place_in n (whole_of i) → item_of t i ≡ Err f
fault_in t i n f h e g = not_found (elements_of t) (whole_of i) f (g ∙ ap (λ m. place_in m (whole_of i)) (e ∙ elements_count t h))

-- the element of the entry at its place
pub associate_at : (es : List Entry) (k : ℕ) (e : Entry) → k < length es → e ≡ get_or es k e → slice_get (map (λ p. p.1) (listed_pairs (pairs (map as_pair es)))) k ≡ Some e.associate
associate_at es k e h read = sym (nth_of_associates es k) ∙ ap (option_map (λ (f : Entry). f.associate)) (slice_get_read es (length es) k e refl h read)

pub associates_count : (es : List Entry) → length (map (λ (p : Tree × Tree). p.1) (listed_pairs (pairs (map as_pair es)))) ≡ length es
associates_count [] = refl
associates_count (e ∷ es) = ap suc (associates_count es)
