-- Parts by their places.
use Rattle.std.proofs.Common.{◌≡◌, ◌≤◌, ℕ, zero, suc, ◌+◌, List, [], ◌∷◌, ◌++◌, append_assoc, Some, None, length, map, drop, slice_get, refl, sym, ap, ◌∙◌, arith}
use Rattle.std.proofs.lemmas.List.{append-nil}
use Rattle.abc_value.specs.Tree.{Tree, Trees, Pairs, number, text, compound, list, table, no_trees, more, no_pairs, pair, listed, listed_pairs}
use Rattle.abc_value.specs.Parts.{parts_of}
use Rattle.abc_value.specs.Sizes.{count, count_pairs, length_of}

-- what stands at a place is the first of what is dropped to there
pub at_place : {A : Type 0} (xs : List A) (i : ℕ) (x : A) → slice_get xs i ≡ Some x → drop i xs ≡ x ∷ drop (i + 1) xs
at_place [] i x h = absurd (cc)
at_place (y ∷ xs) zero x h = let e : y ≡ x = cc in ap (λ z. z ∷ xs) e
at_place (y ∷ xs) (suc i) x h = at_place xs i x h ∙ ap (λ n. x ∷ drop n (y ∷ xs)) (let e : suc (i + 1) ≡ suc i + 1 = omega arith in e)

pub past_end : {A : Type 0} (xs : List A) (i : ℕ) → slice_get xs i ≡ None → drop i xs ≡ []
past_end [] zero h = refl
past_end [] (suc i) h = refl
past_end (y ∷ xs) zero h = absurd (cc)
past_end (y ∷ xs) (suc i) h = past_end xs i h

-- a value has no more parts than its length
row_count : (ts : Trees) → length (listed ts) ≡ count ts
row_count no_trees = refl
row_count (more t ts) = ap (λ n. suc n) (row_count ts)

pair_count : (ps : Pairs) → length (map (λ p. p.1) (listed_pairs ps)) ≡ count_pairs ps
pair_count no_pairs = refl
pair_count (pair k a ps) = ap (λ n. suc n) (pair_count ps)

equal_least : (m n : ℕ) → m ≡ n → m ≤ n
equal_least m n e = omega (arith, e)

pub parts_count : (t : Tree) → length (parts_of t) ≤ length_of t
parts_count (number n) = omega arith
parts_count (text b) = omega arith
parts_count (compound ts) = equal_least _ _ (row_count ts)
parts_count (list ts) = equal_least _ _ (row_count ts)
parts_count (table ps) = equal_least _ _ (pair_count ps)

pub none_behind : {A : Type 0} (xs : List A) (n : ℕ) → length xs ≤ n → drop n xs ≡ []
none_behind [] zero h = refl
none_behind [] (suc n) h = refl
none_behind (x ∷ xs) zero h = absurd (omega arith)
none_behind (x ∷ xs) (suc n) h = none_behind xs n (omega arith)

-- ---- parts that are put behind others one by one

pub parts_next : (front all new parts : List Tree) (i : ℕ) (v : Tree) → front ≡ all ++ drop i parts → slice_get parts i ≡ Some v → new ≡ all ++ v ∷ [] → front ≡ new ++ drop (i + 1) parts
parts_next front all new parts i v h k e =
    h ∙ ap (λ l. all ++ l) (at_place parts i v k) ∙ sym (append_assoc all (v ∷ []) (drop (i + 1) parts)) ∙ ap (λ l. l ++ drop (i + 1) parts) (sym e)

pub parts_over : (front all parts : List Tree) (i : ℕ) → front ≡ all ++ drop i parts → slice_get parts i ≡ None → all ≡ front
parts_over front all parts i h k = sym (h ∙ ap (λ l. all ++ l) (past_end parts i k) ∙ append-nil all)

pub parts_end : (front all : List Tree) (t : Tree) (i : ℕ) → front ≡ all ++ drop i (parts_of t) → length_of t ≤ i → all ≡ front
parts_end front all t i h l =
    let c = parts_count t in sym (h ∙ ap (λ x. all ++ x) (none_behind (parts_of t) i (let e : length (parts_of t) ≤ i = omega arith in e)) ∙ append-nil all)
