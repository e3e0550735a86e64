-- The keys of a table, as a list.
use Rattle.std.proofs.Common.{◌≡◌, ◌≢◌, ℕ, zero, suc, ◌+◌, ◌<◌, ◌≤◌, List, [], ◌∷◌, ◌++◌, length, take, map, refl, sym, ap, ◌∙◌, arith, slice_get, Some, None, Ok, inl}
use Rattle.std.specs.List.{AllByRecursion}
use Rattle.std.specs.Ordering.{match_ordering}
use Rattle.std.specs.declared.cmp.Ordering.TheVariants.{Less}
use Rattle.std.proofs.lemmas.Option.{slice_get_within}
use Rattle.std.proofs.lemmas.List.{length-take-le, take_all}
use Rattle.abc_value.specs.declared.faults.ValueFault.{ValueFault}
use Rattle.abc_value.specs.declared.faults.ValueFault.TheVariants.{Memory}
use Rattle.abc_value.specs.Tree.{Tree, Pairs, number, text, compound, list, table, trees, listed_pairs, no_trees, more, no_pairs, pair}
use Rattle.abc_value.specs.Order.{order}
use Rattle.abc_value.specs.Sizes.{length_of, trees_height, trees_weight, pairs_height, pairs_weight, count, count_pairs, size_fault}
use Rattle.abc_value.specs.Regular.{IsRegular, AllRegularPairs, IsRising}
use Rattle.abc_value.specs.Parts.{IsTable, keys_of, parts_of}
use Rattle.abc_value.specs.Changes.{add}
use Rattle.abc_value.specs.Items.{IsAnswer}
use Rattle.abc_value.proofs.trees.Itemised.{only_memory}
use Rattle.abc_predef.proofs.Codes.{nothing_left, take_next}
use Rattle.abc_value.proofs.lists.Adding.{no_fault}
use Rattle.abc_value.proofs.tables.RisingKeys.{tail_rising, Below, below_all}
use Rattle.abc_value.proofs.trees.Rows.{listed_trees, count_trees}

-- e goes behind what is less
pub add_last : (e : Tree) (xs : List Tree) → AllByRecursion (λ x. order x e ≡ Less) xs → add e xs ≡ xs ++ e ∷ []
add_last e [] h = refl
add_last e (x ∷ xs) h =
    ap (λ o. match_ordering o (x ∷ add e xs) (e ∷ x ∷ xs) (e ∷ x ∷ xs)) h.0 ∙ ap (λ ys. x ∷ ys) (add_last e xs h.1)

abbrev pub firsts : Pairs → List Tree
firsts ps = map (λ p. p.0) (listed_pairs ps)

-- a key is less than each later one
below_at : (k : Tree) (ps : Pairs) (i : ℕ) (x : Tree) → Below k ps → slice_get (firsts ps) i ≡ Some x → order k x ≡ Less
below_at k no_pairs i x b e = absurd (cc)
below_at k (pair l a ps) zero x b e = let s : l ≡ x = cc in ap (order k) (sym s) ∙ b.0
below_at k (pair l a ps) (suc i) x b e = below_at k ps i x b.1 e

-- all keys before a place are less than the one there
pub less_before_place : (ps : Pairs) (i : ℕ) (x : Tree) → IsRising ps → AllRegularPairs ps → slice_get (firsts ps) i ≡ Some x → AllByRecursion (λ y. order y x ≡ Less) (take i (firsts ps))
unfolding AllRegularPairs
less_before_place no_pairs i x h r e = absurd (cc)
less_before_place (pair k a ps) zero x h r e = tt
less_before_place (pair k a ps) (suc i) x h r e =
    (below_at k ps i x (below_all k a ps r.0 r.2 h) e, less_before_place ps i x (tail_rising k a ps h) r.2 e)

-- the sizes of the first keys are at most those of the table
pub keys_high : (ps : Pairs) (n : ℕ) → trees_height (trees (take n (firsts ps))) ≤ pairs_height ps
keys_high no_pairs zero = omega arith
keys_high no_pairs (suc n) = omega arith
keys_high (pair k a ps) zero = omega arith
keys_high (pair k a ps) (suc n) = omega (arith, keys_high ps n)

pub keys_heavy : (ps : Pairs) (n : ℕ) → trees_weight (trees (take n (firsts ps))) ≤ pairs_weight ps
keys_heavy no_pairs zero = omega arith
keys_heavy no_pairs (suc n) = omega arith
keys_heavy (pair k a ps) zero = omega arith
keys_heavy (pair k a ps) (suc n) = omega (arith, keys_heavy ps n)

pub keys_long : (ps : Pairs) (n : ℕ) → count (trees (take n (firsts ps))) ≤ count_pairs ps
keys_long no_pairs zero = omega arith
keys_long no_pairs (suc n) = omega arith
keys_long (pair k a ps) zero = omega arith
keys_long (pair k a ps) (suc n) = omega (arith, keys_long ps n)

-- the list of the first keys is small
pub keys_small : (t : Tree) (n : ℕ) → IsTable t → IsRegular t → size_fault (list (trees (take n (keys_of t)))) ≡ None
unfolding size_fault IsRegular
keys_small (number m) n h r = absurd h
keys_small (text b) n h r = absurd h
keys_small (compound ts) n h r = absurd h
keys_small (list no_trees) zero h r = no_fault 0 0 5 (omega arith) (omega arith) (omega arith)
keys_small (list no_trees) (suc n) h r = no_fault 0 0 5 (omega arith) (omega arith) (omega arith)
keys_small (list (more u us)) n h r = absurd h
keys_small (table ps) n h r =
    no_fault (count (trees (take n (firsts ps)))) (trees_height (trees (take n (firsts ps)))) (trees_weight (trees (take n (firsts ps))) + 5)
    (omega (arith, keys_long ps n, r.0.0)) (omega (arith, keys_high ps n, r.0.1)) (omega (arith, keys_heavy ps n, r.0.2))

-- the next key goes last
pub key_added : (t : Tree) (n : ℕ) (x : Tree) → IsTable t → IsRegular t → slice_get (keys_of t) n ≡ Some x → add x (take n (keys_of t)) ≡ take (n + 1) (keys_of t)
unfolding IsRegular
key_added (number m) n x h r e = absurd h
key_added (text b) n x h r e = absurd h
key_added (compound ts) n x h r e = absurd h
key_added (list no_trees) n x h r e = absurd (cc)
key_added (list (more u us)) n x h r e = absurd h
key_added (table ps) n x h r e =
    add_last x (take n (firsts ps)) (less_before_place ps n x r.2 r.3 e) ∙ take_next (firsts ps) n x e

-- the first so many keys
pub record HasKeys (t keys : Tree) : Type 0 where
  pub is : keys ≡ list (trees (take (length_of keys) (keys_of t)))
  pub within : length_of keys ≤ length (keys_of t)

pub no_keys : (t keys : Tree) → keys ≡ list no_trees → HasKeys t keys
no_keys t keys e =
    let none : length_of keys ≡ 0 = ap length_of e in
    record { is = e ∙ ap (λ n. list (trees (take n (keys_of t)))) (sym none); within = omega arith }

parts_are : (t keys : Tree) → HasKeys t keys → parts_of keys ≡ take (length_of keys) (keys_of t)
parts_are t keys h = ap parts_of h.is ∙ listed_trees (take (length_of keys) (keys_of t))

with_key : (t keys key : Tree) → IsTable t → IsRegular t → HasKeys t keys → slice_get (keys_of t) (length_of keys) ≡ Some key → list (trees (add key (parts_of keys))) ≡ list (trees (take (length_of keys + 1) (keys_of t)))
with_key t keys key i r h e = ap (λ xs. list (trees xs)) (ap (add key) (parts_are t keys h) ∙ key_added t (length_of keys) key i r e)

-- one key more
pub more_keys : (t keys new key : Tree) → IsTable t → IsRegular t → HasKeys t keys → slice_get (keys_of t) (length_of keys) ≡ Some key → new ≡ list (trees (add key (parts_of keys))) → HasKeys t new × (length_of new ≡ length_of keys + 1) × (length_of keys < length (keys_of t))
more_keys t keys new key i r h e is =
    let n = length_of keys in
    let inside : n < length (keys_of t) = slice_get_within (keys_of t) n key e in
    let new_is = is ∙ with_key t keys key i r h e in
    let size : length_of new ≡ n + 1 = ap length_of new_is ∙ count_trees (take (n + 1) (keys_of t)) ∙ length-take-le (n + 1) (keys_of t) (omega arith) in
    (record { is = new_is ∙ ap (λ m. list (trees (take m (keys_of t)))) (sym size); within = omega arith }, size, inside)

-- only want of memory keeps a key out
pub key_fault : (t keys key : Tree) (f : ValueFault) → IsTable t → IsRegular t → HasKeys t keys → slice_get (keys_of t) (length_of keys) ≡ Some key → (f ≢ Memory → size_fault (list (trees (add key (parts_of keys)))) ≡ Some f) → f ≡ Memory
key_fault t keys key f i r h e m =
    only_memory (list (trees (add key (parts_of keys)))) f (ap size_fault (with_key t keys key i r h e) ∙ keys_small t (length_of keys + 1) i r) m

pub all_keys : (t keys : Tree) → HasKeys t keys → slice_get (keys_of t) (length_of keys) ≡ None → IsAnswer (Ok (list (trees (keys_of t)))) (Ok keys)
all_keys t keys h e =
    inl (ap Ok (h.is ∙ ap (λ xs. list (trees xs)) (take_all (length_of keys) (keys_of t) (nothing_left (keys_of t) (length_of keys) e))))
