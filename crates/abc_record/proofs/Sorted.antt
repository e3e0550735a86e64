-- Elements and pairs that are in order already, and tests of that by their neighbours.
use Rattle.std.proofs.Common.{◌≡◌, ◌≢◌, ℕ, zero, suc, ◌-◌, ◌<◌, ◌≤◌, Bool, true, false, cond, not, ◌&&◌, List, [], ◌∷◌, length, get_or, drop, Some, None, refl, sym, ap, subst, ◌∙◌, arith}
use Rattle.std.specs.declared.cmp.Ordering.{Ordering}
use Rattle.std.specs.declared.cmp.Ordering.TheVariants.{Less, Equal, Greater}
use Rattle.std.specs.Ordering.{is_eq, is_lt, is_gt, match_ordering, ordering_reverse}
use Rattle.abc_value.specs.Tree.{Tree, Pairs, trees, pairs, no_pairs, pair, listed_pairs}
use Rattle.abc_value.specs.Order.{order}
use Rattle.abc_value.specs.Changes.{add, in_order, with_pair, with_new, associate_of, placed}
use Rattle.abc_value.specs.Regular.{IsOrdered, IsRising, AllRegularPairs}
use Rattle.abc_value.proofs.ordering.OrderLaws.{order-reverse}
use Rattle.abc_value.proofs.tables.RisingKeys.{tail_rising, Below, below_all}
use Rattle.abc_value.proofs.trees.Rows.{listed_pairs_pairs}
use Rattle.abc_record.specs.inner.Reading.{are_ordered, are_rising}

-- ---- lists

not_less : (r : Ordering) → r ≢ Greater → ordering_reverse r ≢ Less
not_less Less h e = cc
not_less Equal h e = cc
not_less Greater h e = h refl

in_front : (r : Ordering) (a b : List Tree) → r ≢ Less → match_ordering r a b b ≡ b
in_front Less a b h = absurd (h refl)
in_front Equal a b h = refl
in_front Greater a b h = refl

added : (e : Tree) (ts : List Tree) → IsOrdered (trees (e ∷ ts)) → add e ts ≡ e ∷ ts
added e [] h = refl
added e (x ∷ xs) h = in_front (order x e) (x ∷ add e xs) (e ∷ x ∷ xs) (subst (λ r. r ≢ Less) (sym (order-reverse x e)) (not_less (order e x) h.0))

tail_ordered : (t : Tree) (ts : List Tree) → IsOrdered (trees (t ∷ ts)) → IsOrdered (trees ts)
tail_ordered t [] h = tt
tail_ordered t (u ∷ us) h = h.1

-- what is in order stays as it is
pub in_order_stays : (ts : List Tree) → IsOrdered (trees ts) → in_order ts ≡ ts
in_order_stays [] h = refl
in_order_stays (t ∷ ts) h = ap (add t) (in_order_stays ts (tail_ordered t ts h)) ∙ added t ts h

-- ---- tables

above : (k l : Tree) → order k l ≡ Less → order l k ≡ Greater
above k l h = order-reverse l k ∙ ap ordering_reverse h

is_new : (k : Tree) (ps : Pairs) → Below k ps → associate_of k (listed_pairs ps) ≡ None
is_new k no_pairs b = refl
is_new k (pair l c ps) b = ap (λ r. cond (is_eq r) (Some c) (associate_of k (listed_pairs ps))) (above k l b.0) ∙ is_new k ps b.1

first_pair : (k a : Tree) (ps : Pairs) → Below k ps → with_pair k a (listed_pairs ps) ≡ (k, a) ∷ listed_pairs ps
first_pair k a no_pairs b = refl
first_pair k a (pair l c ps) b =
    ap (λ r. match_ordering r ((l, c) ∷ with_pair k a (listed_pairs ps)) ((k, a) ∷ listed_pairs ps) ((k, a) ∷ (l, c) ∷ listed_pairs ps)) (above k l b.0)

row_stays : (ps : Pairs) → AllRegularPairs ps → IsRising ps → placed (listed_pairs ps) ≡ listed_pairs ps
unfolding AllRegularPairs
row_stays no_pairs all h = refl
row_stays (pair k a ps) all h =
    let b = below_all k a ps all.0 all.2 h in
    ap (λ qs. with_new k a (associate_of k qs) qs) (row_stays ps all.2 (tail_rising k a ps h)) ∙ ap (λ o. with_new k a o (listed_pairs ps)) (is_new k ps b) ∙ first_pair k a ps b

pub placed_stays : (ps : List (Tree × Tree)) → AllRegularPairs (pairs ps) → IsRising (pairs ps) → placed ps ≡ ps
placed_stays ps all h =
    let same = listed_pairs_pairs ps in
    ap placed (sym same) ∙ row_stays (pairs ps) all h ∙ same

-- ---- neighbours

ordered_step : (xs : List Tree) (j : ℕ) (a b : Tree) → suc j < length xs → a ≡ get_or xs j a → b ≡ get_or xs (suc j) b → are_ordered (drop j xs) ≡ (not (is_gt (order a b)) && are_ordered (drop (suc j) xs))
unfolding are_ordered
ordered_step [] j a b h p q = absurd (omega (arith, h))
ordered_step (x ∷ []) zero a b h p q = absurd (omega (arith, h))
ordered_step (x ∷ (y ∷ ys)) zero a b h p q = λ i. not (is_gt (order (sym p i) (sym q i))) && are_ordered (y ∷ ys)
ordered_step (x ∷ xs) (suc j) a b h p q = ordered_step xs j a b (omega (arith, h)) p q

rising_step : (xs : List (Tree × Tree)) (j : ℕ) (a b : Tree × Tree) → suc j < length xs → a ≡ get_or xs j a → b ≡ get_or xs (suc j) b → are_rising (drop j xs) ≡ (is_lt (order a.0 b.0) && are_rising (drop (suc j) xs))
unfolding are_rising
rising_step [] j a b h p q = absurd (omega (arith, h))
rising_step (x ∷ []) zero a b h p q = absurd (omega (arith, h))
rising_step (x ∷ (y ∷ ys)) zero a b h p q = λ i. is_lt (order (sym p i).0 (sym q i).0) && are_rising (y ∷ ys)
rising_step (x ∷ xs) (suc j) a b h p q = rising_step xs j a b (omega (arith, h)) p q

-- whether the elements from the one before place i on are in order
pub ordered_at : (xs : List Tree) (i : ℕ) (a b : Tree) → 1 ≤ i → i < length xs → a ≡ get_or xs (i - 1) a → b ≡ get_or xs i b → are_ordered (drop (i - 1) xs) ≡ (not (is_gt (order a b)) && are_ordered (drop i xs))
ordered_at xs i a b one h p q =
    let same : suc (i - 1) ≡ i = omega arith in
    subst (λ k. are_ordered (drop (i - 1) xs) ≡ (not (is_gt (order a b)) && are_ordered (drop k xs))) same
    (ordered_step xs (i - 1) a b (omega arith) p (subst (λ k. b ≡ get_or xs k b) (sym same) q))

pub rising_at : (xs : List (Tree × Tree)) (i : ℕ) (a b : Tree × Tree) → 1 ≤ i → i < length xs → a ≡ get_or xs (i - 1) a → b ≡ get_or xs i b → are_rising (drop (i - 1) xs) ≡ (is_lt (order a.0 b.0) && are_rising (drop i xs))
rising_at xs i a b one h p q =
    let same : suc (i - 1) ≡ i = omega arith in
    subst (λ k. are_rising (drop (i - 1) xs) ≡ (is_lt (order a.0 b.0) && are_rising (drop k xs))) same
    (rising_step xs (i - 1) a b (omega arith) p (subst (λ k. b ≡ get_or xs k b) (sym same) q))

-- the last element, or none
last_ordered : (xs : List Tree) (j : ℕ) → length xs ≤ suc j → are_ordered (drop j xs) ≡ true
unfolding are_ordered
last_ordered [] zero h = refl
last_ordered [] (suc j) h = refl
last_ordered (x ∷ []) zero h = refl
last_ordered (x ∷ (y ∷ ys)) zero h = absurd (omega (arith, h))
last_ordered (x ∷ xs) (suc j) h = last_ordered xs j (omega (arith, h))

last_rising : (xs : List (Tree × Tree)) (j : ℕ) → length xs ≤ suc j → are_rising (drop j xs) ≡ true
unfolding are_rising
last_rising [] zero h = refl
last_rising [] (suc j) h = refl
last_rising (x ∷ []) zero h = refl
last_rising (x ∷ (y ∷ ys)) zero h = absurd (omega (arith, h))
last_rising (x ∷ xs) (suc j) h = last_rising xs j (omega (arith, h))

pub ordered_to_end : (xs : List Tree) (i : ℕ) → length xs ≤ i → are_ordered (drop (i - 1) xs) ≡ true
ordered_to_end xs i h = last_ordered xs (i - 1) (omega arith)

pub rising_to_end : (xs : List (Tree × Tree)) (i : ℕ) → length xs ≤ i → are_rising (drop (i - 1) xs) ≡ true
rising_to_end xs i h = last_rising xs (i - 1) (omega arith)
