-- Tables with a pair more, another associate, or a pair fewer.
use Rattle.std.proofs.Common.{◌≡◌, ◌≢◌, ℕ, zero, suc, ◌+◌, ◌<◌, ◌≤◌, max, List, [], ◌∷◌, length, get_or, refl, sym, ap, ◌∙◌, arith, Some, None}
use Rattle.std.specs.List.{remove, insert, slice_set}
use Rattle.std.specs.declared.cmp.Ordering.{Ordering}
use Rattle.std.specs.declared.cmp.Ordering.TheVariants.{Less, Equal, Greater}
use Rattle.std.specs.Ordering.{match_ordering, ordering_reverse}
use Rattle.abc_value.specs.Tree.{Tree, pairs}
use Rattle.abc_value.specs.Order.{order}
use Rattle.abc_value.specs.Sizes.{height_of, weight_of, pairs_height, pairs_weight}
use Rattle.abc_value.specs.Regular.{IsRegular, AllRegularPairs, IsRising}
use Rattle.abc_value.specs.Changes.{with_pair, without_key, associate_of, IsPlaceOf}
use Rattle.abc_value.proofs.ordering.OrderLaws.{order-refl, order-reverse, order-same, order-trans}
use Rattle.abc_value.proofs.lists.Placing.{later, is_eq_at, not_eq_at, less_not_equal}
use Rattle.abc_value.proofs.tables.RisingKeys.{tail_rising}
use Rattle.abc_value.proofs.tables.Keys.{firsts}

-- what stands in the table with a new pair
pub record Joins (k a : Tree) (ps qs : List (Tree × Tree)) : Type 0 where
  pub size : length qs ≡ length ps + 1
  pub height : pairs_height (pairs qs) ≡ max (max (height_of k) (height_of a) + 1) (pairs_height (pairs ps))
  pub weight : pairs_weight (pairs qs) ≡ weight_of k + weight_of a + pairs_weight (pairs ps)
  pub regular : IsRegular k → IsRegular a → AllRegularPairs (pairs ps) → AllRegularPairs (pairs qs)

pub insert_joins : (k a : Tree) (ps : List (Tree × Tree)) (n : ℕ) → n ≤ length ps → Joins k a ps (insert ps n (k, a))
unfolding AllRegularPairs
insert_joins k a [] zero h = record { size = omega arith; height = omega arith; weight = omega arith; regular = λ i j r. (i, j, r) }
insert_joins k a [] (suc n) h = absurd (omega arith)
insert_joins k a (p ∷ ps) zero h = record { size = omega arith; height = omega arith; weight = omega arith; regular = λ i j r. (i, j, r) }
insert_joins k a (p ∷ ps) (suc n) h =
    let j = insert_joins k a ps n (omega arith) in
    record { size = omega (arith, j.size); height = omega (arith, j.height); weight = omega (arith, j.weight); regular = λ i l r. (r.0, r.1, j.regular i l r.2) }

-- what stands in the table with the pair (k, a) in place of a pair with the associate b
pub record Replaces (k a b : Tree) (ps qs : List (Tree × Tree)) : Type 0 where
  pub size : length qs ≡ length ps
  pub height : pairs_height (pairs qs) ≤ max (height_of a + 1) (pairs_height (pairs ps))
  pub others : (rest : ℕ) × (pairs_height (pairs ps) ≡ max (height_of b + 1) rest) × (pairs_height (pairs qs) ≡ max (height_of a + 1) rest)
  pub weight : pairs_weight (pairs qs) + weight_of b ≡ pairs_weight (pairs ps) + weight_of a
  pub regular : IsRegular k → IsRegular a → AllRegularPairs (pairs ps) → AllRegularPairs (pairs qs)

pub set_replaces : (k a b : Tree) (ps : List (Tree × Tree)) (n : ℕ) (p : Tree × Tree) → n < length ps → p ≡ get_or ps n p → p.0 ≡ k → p.1 ≡ b → Replaces k a b ps (slice_set ps n (k, a))
unfolding AllRegularPairs
set_replaces k a b [] n p h is first second = absurd (omega arith)
set_replaces k a b (q ∷ ps) zero p h is first second =
    let key : q.0 ≡ k = ap (λ (x : Tree × Tree). x.0) (sym is) ∙ first in
    let old : q.1 ≡ b = ap (λ (x : Tree × Tree). x.1) (sym is) ∙ second in
    record {
      size = omega arith;
      height = omega (arith, ap height_of key);
      others = (max (height_of k + 1) (pairs_height (pairs ps)), omega (arith, ap height_of key, ap height_of old), omega arith);
      weight = omega (arith, ap weight_of key, ap weight_of old);
      regular = λ i j r. (i, j, r.2);
    }
set_replaces k a b (q ∷ ps) (suc n) p h is first second =
    let s = set_replaces k a b ps n p (omega arith) is first second in
    record {
      size = omega (arith, s.size);
      height = omega (arith, s.height);
      others = (max (height_of q.0 + 1) (max (height_of q.1 + 1) s.others.0), omega (arith, s.others.1), omega (arith, s.others.2));
      weight = omega (arith, s.weight);
      regular = λ i j r. (r.0, r.1, s.regular i j r.2);
    }

-- what stands in the table without the pair p
pub record Loses (p : Tree × Tree) (ps qs : List (Tree × Tree)) : Type 0 where
  pub size : length ps ≡ length qs + 1
  pub height : pairs_height (pairs qs) ≤ pairs_height (pairs ps)
  pub tall : pairs_height (pairs ps) ≡ max (max (height_of p.0) (height_of p.1) + 1) (pairs_height (pairs qs))
  pub weight : pairs_weight (pairs ps) ≡ weight_of p.0 + weight_of p.1 + pairs_weight (pairs qs)
  pub regular : AllRegularPairs (pairs ps) → AllRegularPairs (pairs qs)

pub remove_loses : (p : Tree × Tree) (ps : List (Tree × Tree)) (n : ℕ) → n < length ps → p ≡ get_or ps n p → Loses p ps (remove ps n)
unfolding AllRegularPairs
remove_loses p [] n h is = absurd (omega arith)
remove_loses p (q ∷ ps) zero h is =
    let key : weight_of p.0 ≡ weight_of q.0 = ap (λ (x : Tree × Tree). weight_of x.0) is in
    let old : weight_of p.1 ≡ weight_of q.1 = ap (λ (x : Tree × Tree). weight_of x.1) is in
    let keys : height_of p.0 ≡ height_of q.0 = ap (λ (x : Tree × Tree). height_of x.0) is in
    let olds : height_of p.1 ≡ height_of q.1 = ap (λ (x : Tree × Tree). height_of x.1) is in
    record { size = omega arith; height = omega arith; tall = omega (arith, keys, olds); weight = omega arith; regular = λ r. r.2 }
remove_loses p (q ∷ ps) (suc n) h is =
    let l = remove_loses p ps n (omega arith) is in
    record { size = omega (arith, l.size); height = omega (arith, l.height); tall = omega (arith, l.tall); weight = omega (arith, l.weight); regular = λ r. (r.0, r.1, l.regular r.2) }

-- ---- the place of the key decides
answer_at : {A : Type 0} → (r : Ordering) (s : Ordering) (x y z w : A) → r ≡ s → w ≡ match_ordering s x y z → w ≡ match_ordering r x y z
answer_at r s x y z w e h = h ∙ ap (λ o. match_ordering o x y z) (sym e)

greater_left : (r : Ordering) → r ≢ Less → r ≢ Equal → r ≡ Greater
greater_left Less h k = absurd (h refl)
greater_left Equal h k = absurd (k refl)
greater_left Greater h k = refl

pub set_placed : (k a : Tree) (ps : List (Tree × Tree)) (n : ℕ) → IsPlaceOf k (firsts ps) n → n < length ps → get_or (firsts ps) n k ≡ k → slice_set ps n (k, a) ≡ with_pair k a ps
set_placed k a [] n p h is = absurd (omega arith)
set_placed k a (q ∷ ps) zero p h is = answer_at (order q.0 k) Equal (q ∷ with_pair k a ps) ((k, a) ∷ ps) ((k, a) ∷ q ∷ ps) _ (ap (λ x. order x k) is ∙ order-refl k) refl
set_placed k a (q ∷ ps) (suc n) p h is =
    answer_at (order q.0 k) Less (q ∷ with_pair k a ps) ((k, a) ∷ ps) ((k, a) ∷ q ∷ ps) _ (p.before 0 (omega arith)) (ap (λ rs. q ∷ rs) (set_placed k a ps n (later k q.0 (firsts ps) n p) (omega arith) is))

pub insert_placed : (k a : Tree) (ps : List (Tree × Tree)) (n : ℕ) → IsPlaceOf k (firsts ps) n → (n < length (firsts ps) → order (get_or (firsts ps) n k) k ≢ Equal) → insert ps n (k, a) ≡ with_pair k a ps
insert_placed k a [] zero p h = refl
insert_placed k a [] (suc n) p h = absurd (omega (arith, p.within))
insert_placed k a (q ∷ ps) zero p h =
    answer_at (order q.0 k) Greater (q ∷ with_pair k a ps) ((k, a) ∷ ps) ((k, a) ∷ q ∷ ps) _ (greater_left _ (p.behind 0 (omega arith) (omega arith)) (h (omega arith))) refl
insert_placed k a (q ∷ ps) (suc n) p h =
    answer_at (order q.0 k) Less (q ∷ with_pair k a ps) ((k, a) ∷ ps) ((k, a) ∷ q ∷ ps) _ (p.before 0 (omega arith)) (ap (λ rs. q ∷ rs) (insert_placed k a ps n (later k q.0 (firsts ps) n p) (λ l. h (omega arith))))

pub remove_placed_key : (k : Tree) (ps : List (Tree × Tree)) (n : ℕ) → IsPlaceOf k (firsts ps) n → n < length ps → get_or (firsts ps) n k ≡ k → remove ps n ≡ without_key k ps
remove_placed_key k [] n p h is = absurd (omega arith)
remove_placed_key k (q ∷ ps) zero p h is = is_eq_at (order q.0 k) ps (q ∷ without_key k ps) (ap (λ x. order x k) is ∙ order-refl k)
remove_placed_key k (q ∷ ps) (suc n) p h is =
    ap (λ rs. q ∷ rs) (remove_placed_key k ps n (later k q.0 (firsts ps) n p) (omega arith) is) ∙ not_eq_at (order q.0 k) ps (q ∷ without_key k ps) (less_not_equal _ (p.before 0 (omega arith)))

pub found_associate : (k : Tree) (ps : List (Tree × Tree)) (n : ℕ) (d : Tree × Tree) → IsPlaceOf k (firsts ps) n → n < length ps → get_or (firsts ps) n k ≡ k → Some ((get_or ps n d).1) ≡ associate_of k ps
found_associate k [] n d p h is = absurd (omega arith)
found_associate k (q ∷ ps) zero d p h is = is_eq_at (order q.0 k) (Some q.1) (associate_of k ps) (ap (λ x. order x k) is ∙ order-refl k)
found_associate k (q ∷ ps) (suc n) d p h is =
    found_associate k ps n d (later k q.0 (firsts ps) n p) (omega arith) is ∙ not_eq_at (order q.0 k) (Some q.1) (associate_of k ps) (less_not_equal _ (p.before 0 (omega arith)))

-- each key is other than k
pub no_associate : (k : Tree) (ps : List (Tree × Tree)) → ((i : ℕ) → i < length (firsts ps) → order (get_or (firsts ps) i k) k ≢ Equal) → None ≡ associate_of k ps
no_associate k [] h = refl
no_associate k (q ∷ ps) h = no_associate k ps (λ i l. h (suc i) (omega arith)) ∙ not_eq_at (order q.0 k) (Some q.1) (associate_of k ps) (h 0 (omega arith))

-- ---- the keys keep their order
turned_less : (k l : Tree) → order k l ≡ Greater → order l k ≡ Less
turned_less k l h = order-reverse l k ∙ ap ordering_reverse h

-- p stays in front of the rest with (k, a)
rising_front : (k a : Tree) (p : Tree × Tree) (ps : List (Tree × Tree)) → order p.0 k ≡ Less → IsRising (pairs (p ∷ ps)) → IsRising (pairs (with_pair k a ps)) → IsRising (pairs (p ∷ with_pair k a ps))
rising_front k a p [] h o r = (h, tt)
rising_front k a p (q ∷ ps) h o r = at (order q.0 k) r
  where
    at : (s : Ordering) → IsRising (pairs (match_ordering s (q ∷ with_pair k a ps) ((k, a) ∷ ps) ((k, a) ∷ q ∷ ps))) → IsRising (pairs (p ∷ match_ordering s (q ∷ with_pair k a ps) ((k, a) ∷ ps) ((k, a) ∷ q ∷ ps)))
    at Less r = (o.0, r)
    at Equal r = (h, r)
    at Greater r = (h, r)

same_key : (k a : Tree) (p : Tree × Tree) (ps : List (Tree × Tree)) → p.0 ≡ k → IsRising (pairs (p ∷ ps)) → IsRising (pairs ((k, a) ∷ ps))
same_key k a p [] e o = tt
same_key k a p (q ∷ ps) e o = (ap (λ x. order x q.0) (sym e) ∙ o.0, o.1)

rising_by : (k a : Tree) (p : Tree × Tree) (ps : List (Tree × Tree)) (s : Ordering) → IsRegular k → IsRegular p.0 → order p.0 k ≡ s → IsRising (pairs (p ∷ ps)) → IsRising (pairs (with_pair k a ps)) → IsRising (pairs (match_ordering s (p ∷ with_pair k a ps) ((k, a) ∷ ps) ((k, a) ∷ p ∷ ps)))
rising_by k a p ps Less i j e o r = rising_front k a p ps e o r
rising_by k a p ps Equal i j e o r = same_key k a p ps (order-same p.0 k j i e) o
rising_by k a p ps Greater i j e o r = (turned_less p.0 k e, o)

pub with_pair_rising : (k a : Tree) (ps : List (Tree × Tree)) → IsRegular k → AllRegularPairs (pairs ps) → IsRising (pairs ps) → IsRising (pairs (with_pair k a ps))
unfolding AllRegularPairs
with_pair_rising k a [] i r o = tt
with_pair_rising k a (p ∷ ps) i r o = rising_by k a p ps (order p.0 k) i r.0 refl o (with_pair_rising k a ps i r.2 (tail_rising p.0 p.1 (pairs ps) o))

skipped : (p q : Tree × Tree) (ps : List (Tree × Tree)) → AllRegularPairs (pairs (p ∷ q ∷ ps)) → IsRising (pairs (p ∷ q ∷ ps)) → IsRising (pairs (p ∷ ps))
unfolding AllRegularPairs
skipped p q [] r o = tt
skipped p q (s ∷ ps) r o = (order-trans p.0 q.0 s.0 r.0 r.2.0 r.2.2.0 o.0 o.1.0, o.1.1)

pub remove_rising : (ps : List (Tree × Tree)) (n : ℕ) → AllRegularPairs (pairs ps) → IsRising (pairs ps) → IsRising (pairs (remove ps n))
unfolding AllRegularPairs
remove_rising [] zero r o = tt
remove_rising [] (suc n) r o = tt
remove_rising (p ∷ []) zero r o = tt
remove_rising (p ∷ q ∷ ps) zero r o = o.1
remove_rising (p ∷ []) (suc zero) r o = tt
remove_rising (p ∷ []) (suc (suc n)) r o = tt
remove_rising (p ∷ q ∷ ps) (suc zero) r o = skipped p q ps r o
remove_rising (p ∷ q ∷ ps) (suc (suc n)) r o = (o.0, remove_rising (q ∷ ps) (suc n) r.2 o.1)
