-- The words of a text, and the table of them.
use Rattle.std.proofs.Common.{◌≡◌, ℕ, suc, ◌+◌, ◌*◌, ◌<◌, ◌≤◌, List, [], ◌∷◌, ◌++◌, length, refl, sym, ap, ◌∙◌, arith, Some, None, inl, inr, pos, Bool, true, false, not, cond}
use Rattle.std.specs.Prelude.{nat_lt}
use Rattle.std.specs.List.{AllByRecursion, filter, slice_split, position, position_or_len, before_first, after_first}
use Rattle.std.specs.Ordering.{match_ordering}
use Rattle.std.specs.Prelude.{◌*ℤ◌}
use Rattle.std.specs.Cmp.{int_cmp_is}
use Rattle.std.specs.declared.cmp.Ordering.TheVariants.{Less}
use Rattle.std.proofs.lemmas.Bool.{cases_lt}
use Rattle.std.proofs.lemmas.Bool.Decides.{nat_tests}
use Rattle.std.proofs.lemmas.Int.{ints}
use Rattle.std.proofs.lemmas.List.{length-append, append-nil, take_all, drop_all}
use Rattle.std.proofs.lemmas.List.Elements.{filter-append}
use Rattle.std.proofs.lemmas.List.Splits.{slice_split_first, slice_split_none}
use Rattle.std.proofs.lemmas.List.Sums.{fails_before_first, prefix_len-le-length}
use Rattle.abc_num.specs.Number.{whole_number}
use Rattle.abc_num.specs.declared.limits.TheConstants.{MOST_ELEMENTS}
use Rattle.abc_value.specs.Tree.{Tree, number, text, table, table_of, pairs}
use Rattle.abc_value.specs.Order.{order}
use Rattle.abc_value.specs.Sizes.{length_of, pairs_height, pairs_weight, count_pairs, size_fault}
use Rattle.abc_value.specs.Parts.{pairs_of}
use Rattle.abc_value.specs.Changes.{with_pair}
use Rattle.abc_value.proofs.lists.Adding.{no_fault}
use Rattle.abc_value.proofs.trees.Rows.{pairs_of_table, count_pairs_pairs}
use Rattle.abc_predef.specs.Texts.{is_space, has_characters, words_of, numbered}
use Rattle.abc_predef.specs.inner.Places.{with_word}

no_space : (b : List ℕ) → length b ≤ position_or_len is_space b → slice_split is_space b ≡ b ∷ []
no_space b l = slice_split_none is_space b (λ k d h. fails_before_first is_space b k d (omega arith))

-- the words of a text are its first and those behind it
pub words_step : (b : List ℕ) → words_of b ≡ filter has_characters (before_first is_space b ∷ []) ++ words_of (after_first is_space b)
words_step b = elim (cases_lt (position_or_len is_space b) (length b)) [
  | inl l ↦ ap (filter has_characters) (slice_split_first is_space b 0 l) ∙ filter-append has_characters (before_first is_space b ∷ []) (slice_split is_space (after_first is_space b))
  | inr l ↦ ap (filter has_characters) (no_space b l)
      ∙ sym (append-nil (filter has_characters (b ∷ [])))
      ∙ ap (λ c. filter has_characters (c ∷ []) ++ []) (sym (take_all (position_or_len is_space b) b l))
      ∙ ap (λ c. filter has_characters (before_first is_space b ∷ []) ++ words_of c) (sym (drop_all (position_or_len is_space b + 1) b (omega arith)))
]

-- a pair goes behind those with lesser keys
pub with_pair_last : (k a : Tree) (ps : List (Tree × Tree)) → AllByRecursion (λ p. order p.0 k ≡ Less) ps → with_pair k a ps ≡ ps ++ (k, a) ∷ []
with_pair_last k a [] h = refl
with_pair_last k a (p ∷ ps) h =
    ap (λ o. match_ordering o (p ∷ with_pair k a ps) ((k, a) ∷ ps) ((k, a) ∷ p ∷ ps)) h.0 ∙ ap (λ qs. p ∷ qs) (with_pair_last k a ps h.1)

less_number : (m n : ℕ) → m < n → order (number (whole_number (pos m))) (number (whole_number (pos n))) ≡ Less
less_number m n h = sym (int_cmp_is (pos m *ℤ pos 1) (pos n *ℤ pos 1) Less (omega (arith, ints)))

numbers_below : (n : ℕ) (bs : List (List ℕ)) (m : ℕ) → n + length bs ≤ m → AllByRecursion (λ p. order p.0 (number (whole_number (pos m))) ≡ Less) (numbered n bs)
numbers_below n [] m h = tt
numbers_below n (b ∷ bs) m h = (less_number n m (omega arith), numbers_below (suc n) bs m (omega arith))

numbered_more : (n m : ℕ) (bs : List (List ℕ)) (b : List ℕ) → n + length bs ≡ m → numbered n (bs ++ b ∷ []) ≡ numbered n bs ++ (number (whole_number (pos m)), text b) ∷ []
numbered_more n m [] b e = let s : n ≡ m = omega arith in ap (λ k. (number (whole_number (pos k)), text b) ∷ []) s
numbered_more n m (c ∷ bs) b e = ap (λ ps. (number (whole_number (pos n)), text c) ∷ ps) (numbered_more (suc n) m bs b (omega arith))

numbered_length : (n : ℕ) (bs : List (List ℕ)) → length (numbered n bs) ≡ length bs
numbered_length n [] = refl
numbered_length n (b ∷ bs) = ap suc (numbered_length (suc n) bs)

length_of_table : (ps : List (Tree × Tree)) → length_of (table_of ps) ≡ length ps
length_of_table [] = refl
length_of_table (p ∷ ps) = count_pairs_pairs (p ∷ ps)

table_of_more : (ps : List (Tree × Tree)) (p : Tree × Tree) → table (pairs (ps ++ p ∷ [])) ≡ table_of (ps ++ p ∷ [])
table_of_more [] p = refl
table_of_more (q ∷ ps) p = refl

-- a word more in the table of the words before it
word_added : (t : Tree) (bs : List (List ℕ)) (c : ℕ) (b : List ℕ) → t ≡ table_of (numbered 1 bs) → with_word t (c ∷ b) ≡ table_of (numbered 1 (bs ++ (c ∷ b) ∷ []))
word_added t bs c b e =
    let ps = numbered 1 bs in
    let m = length_of t + 1 in
    let k = number (whole_number (pos m)) in
    let count : 1 + length bs ≡ m = omega (arith, ap length_of e, length_of_table ps, numbered_length 1 bs) in
    ap (λ qs. table (pairs (with_pair k (text (c ∷ b)) qs))) (ap pairs_of e ∙ pairs_of_table ps)
    ∙ ap (λ qs. table (pairs qs)) (with_pair_last k (text (c ∷ b)) ps (numbers_below 1 bs m (omega (arith, count))))
    ∙ table_of_more ps (k, text (c ∷ b))
    ∙ ap table_of (sym (numbered_more 1 m bs (c ∷ b) count))

-- the characters of words, and one more for each
abbrev pub spent : List (List ℕ) → ℕ
spent [] = 0
spent (b ∷ bs) = length b + 1 + spent bs

spent-append : (bs cs : List (List ℕ)) → spent (bs ++ cs) ≡ spent bs + spent cs
spent-append [] cs = omega arith
spent-append (b ∷ bs) cs = omega (arith, spent-append bs cs)

numbered_weight : (n : ℕ) (bs : List (List ℕ)) → pairs_weight (pairs (numbered n bs)) ≡ 21 * length bs + spent bs
numbered_weight n [] = omega arith
numbered_weight n (b ∷ bs) = omega (arith, numbered_weight (suc n) bs)

numbered_height : (n : ℕ) (bs : List (List ℕ)) → pairs_height (pairs (numbered n bs)) ≤ 1
numbered_height n [] = omega arith
numbered_height n (b ∷ bs) = omega (arith, numbered_height (suc n) bs)

pub words_small : (bs : List (List ℕ)) → 2 * length bs ≤ spent bs → spent bs ≤ MOST_ELEMENTS + 1 → size_fault (table_of (numbered 1 bs)) ≡ None
unfolding size_fault
words_small [] h k = no_fault 0 0 5 (omega arith) (omega arith) (omega arith)
words_small (b ∷ bs) h k =
    let ps = numbered 1 (b ∷ bs) in
    no_fault (count_pairs (pairs ps)) (pairs_height (pairs ps)) (pairs_weight (pairs ps) + 5)
    (omega (arith, count_pairs_pairs ps, numbered_length 1 (b ∷ bs), h, k)) (omega (arith, numbered_height 1 (b ∷ bs))) (omega (arith, numbered_weight 1 (b ∷ bs), h, k))

by_test : (b : List ℕ) (t : Bool) → nat_lt (position_or_len is_space b) (length b) ≡ t → cond t (Some (position_or_len is_space b)) None ≡ None → length b ≤ position_or_len is_space b
by_test b true e h = absurd (cc)
by_test b false e h = grind (arith, nat_tests)

-- without a space all stands before the first
pub position_none : (b : List ℕ) → position is_space b ≡ None → length b ≡ position_or_len is_space b
position_none b h =
    let l = by_test b (nat_lt (position_or_len is_space b) (length b)) refl h in
    omega (arith, l, prefix_len-le-length (λ c. not (is_space c)) b)

-- the words with one more
abbrev pub with_next : List (List ℕ) → List ℕ → List (List ℕ)
with_next done b = done ++ filter has_characters (b ∷ [])

pub next_is : (words : Tree) (done : List (List ℕ)) (b : List ℕ) → words ≡ table_of (numbered 1 done) → with_word words b ≡ table_of (numbered 1 (with_next done b))
next_is words done [] e = e ∙ ap (λ bs. table_of (numbered 1 bs)) (sym (append-nil done))
next_is words done (c ∷ b) e = word_added words done c b e

pub next_spent : (done : List (List ℕ)) (b : List ℕ) → spent (with_next done b) ≤ spent done + length b + 1
next_spent done [] = omega (arith, spent-append done [])
next_spent done (c ∷ b) = omega (arith, spent-append done ((c ∷ b) ∷ []))

pub next_full : (done : List (List ℕ)) (b : List ℕ) → 2 * length done ≤ spent done → 2 * length (with_next done b) ≤ spent (with_next done b)
next_full done [] h = omega (arith, h, spent-append done [], length-append done [])
next_full done (c ∷ b) h = omega (arith, h, spent-append done ((c ∷ b) ∷ []), length-append done ((c ∷ b) ∷ []))
