-- What the changes of a table compute and leave.
use Rattle.std.proofs.Common.{◌≡◌, ◌≢◌, ℕ, zero, suc, ◌+◌, ◌-◌, ◌<◌, ◌≤◌, max, List, [], ◌∷◌, length, map, get_or, refl, sym, ap, ◌∙◌, subst, arith, Some, None, Option, inl, inr}
use Rattle.std.specs.Prelude.{IsSome}
use Rattle.std.specs.List.{remove, insert, slice_set}
use Rattle.std.proofs.lemmas.List.{length-map, get_or-map}
use Rattle.std.proofs.lemmas.Bool.{cases_lt}
use Rattle.std.specs.declared.cmp.Ordering.TheVariants.{Less, Equal}
use Rattle.abc_num.specs.declared.limits.TheConstants.{MOST_ELEMENTS, MOST_VALUE_HEIGHT, MOST_WEIGHT}
use Rattle.abc_value.specs.Tree.{Tree, table, table_of, pair, no_pairs, pairs, empty}
use Rattle.abc_value.specs.Order.{order}
use Rattle.abc_value.specs.Sizes.{height_of, weight_of, pairs_height, pairs_weight, count_pairs, sizes_fault, size_fault}
use Rattle.abc_value.specs.Regular.{IsRegular, AllRegularPairs, IsRising}
use Rattle.abc_value.specs.Changes.{with_pair, without_key, associate_of, IsPlaceOf}
use Rattle.abc_value.specs.declared.value.Entry.{Entry}
use Rattle.abc_value.specs.View.{as_pair, entry_keys}
use Rattle.abc_value.proofs.trees.Rows.{count_pairs_pairs}
use Rattle.abc_value.proofs.lists.Adding.{AreSmall, small_sizes}
use Rattle.abc_value.proofs.lists.Placing.{regular_at}
use Rattle.abc_value.proofs.lists.Removing.{nowhere}
use Rattle.abc_value.proofs.ordering.OrderLaws.{order-same}
use Rattle.abc_value.specs.Parts.{pairs_of, keys_of}
use Rattle.abc_value.proofs.tables.Keys.{firsts, pairs_are, keys_are, map_set, keys_ordered, keys_regular}
use Rattle.abc_value.proofs.tables.Pairing.{Joins, insert_joins, insert_placed, Replaces, set_replaces, set_placed, Loses, remove_loses, remove_placed_key, with_pair_rising, remove_rising, found_associate, no_associate}

-- the table of such pairs is a value, if its sizes are within their bounds
pub table_regular : (ps : List (Tree × Tree)) → 1 ≤ length ps → IsRising (pairs ps) → AllRegularPairs (pairs ps) → AreSmall (length ps) (pairs_height (pairs ps)) (pairs_weight (pairs ps) + 5) → IsRegular (table (pairs ps))
unfolding IsRegular
table_regular ps some o r s =
    let n = count_pairs_pairs ps in
    ((omega (arith, s.long), s.high, s.heavy), omega arith, o, r)

pub regular_pairs : (ps : List (Tree × Tree)) → IsRegular (table (pairs ps)) → (1 ≤ length ps) × (length ps ≤ MOST_ELEMENTS) × IsRising (pairs ps) × AllRegularPairs (pairs ps)
unfolding IsRegular
regular_pairs ps r = let n = count_pairs_pairs ps in (omega (arith, r.1), omega (arith, r.0.0), r.2, r.3)

-- ---- a new pair
module _ (k a : Tree) (ps : List (Tree × Tree)) (n : ℕ) (place : IsPlaceOf k (firsts ps) n) (absent : n < length (firsts ps) → order (get_or (firsts ps) n k) k ≢ Equal) where
  pub joined : Joins k a ps (with_pair k a ps)
  joined =
      let P : List (Tree × Tree) → Type 0 = λ qs. Joins k a ps qs in
      subst P (insert_placed k a ps n place absent) (insert_joins k a ps n (omega (arith, place.within, length-map ps (λ (p : Tree × Tree). p.0))))

  pub join_fault : (m h w : ℕ) → m ≡ length ps → h ≡ max (pairs_height (pairs ps)) (max (height_of k) (height_of a) + 1) → w ≡ pairs_weight (pairs ps) + 5 + (weight_of k + weight_of a) → sizes_fault (m + 1) h w ≡ size_fault (table (pairs (with_pair k a ps)))
  unfolding size_fault
  join_fault m h w e f g =
      let long : m + 1 ≡ count_pairs (pairs (with_pair k a ps)) = omega (arith, joined.size, count_pairs_pairs (with_pair k a ps)) in
      let high : h ≡ pairs_height (pairs (with_pair k a ps)) = omega (arith, joined.height) in
      let heavy : w ≡ pairs_weight (pairs (with_pair k a ps)) + 5 = omega (arith, joined.weight) in
      λ i. sizes_fault (long i) (high i) (heavy i)

  pub join_invariant : (qs : List (Tree × Tree)) (m h w : ℕ) → qs ≡ insert ps n (k, a) → IsRegular k → IsRegular a → IsRegular (table (pairs ps)) → m ≡ length ps → h ≡ max (pairs_height (pairs ps)) (max (height_of k) (height_of a) + 1) → w ≡ pairs_weight (pairs ps) + 5 + (weight_of k + weight_of a) → sizes_fault (m + 1) h w ≡ None → (h ≡ pairs_height (pairs qs)) × (w ≡ pairs_weight (pairs qs) + 5) × IsRegular (table (pairs qs))
  join_invariant qs m h w is i j old e f g small =
      let s : AreSmall (m + 1) h w = small_sizes (m + 1) h w small in
      let o = regular_pairs ps old in
      let high : h ≡ pairs_height (pairs (with_pair k a ps)) = omega (arith, joined.height) in
      let heavy : w ≡ pairs_weight (pairs (with_pair k a ps)) + 5 = omega (arith, joined.weight) in
      let P : List (Tree × Tree) → Type 0 = λ rs. (h ≡ pairs_height (pairs rs)) × (w ≡ pairs_weight (pairs rs) + 5) × IsRegular (table (pairs rs)) in
      let sizes : AreSmall (length (with_pair k a ps)) (pairs_height (pairs (with_pair k a ps))) (pairs_weight (pairs (with_pair k a ps)) + 5) = record { long = omega (arith, joined.size, s.long); high = omega (arith, s.high); heavy = omega (arith, s.heavy) } in
      subst P (sym (is ∙ insert_placed k a ps n place absent)) (high, heavy, table_regular (with_pair k a ps) (omega (arith, joined.size)) (with_pair_rising k a ps i o.3 o.2) (joined.regular i j o.3) sizes)

-- ---- another associate
module _ (k a : Tree) (es : List Entry) (n : ℕ) (old : Entry) (place : IsPlaceOf k (firsts (map as_pair es)) n) (inside : n < length es) (there : get_or (firsts (map as_pair es)) n k ≡ k) (read : old ≡ get_or es n old) where
  within : n < length (map as_pair es)
  within = omega (arith, length-map es as_pair)

  old_pair : as_pair old ≡ get_or (map as_pair es) n (as_pair old)
  old_pair = ap as_pair read ∙ sym (get_or-map as_pair es n old (as_pair old) inside)

  old_key : old.key ≡ k
  old_key =
      ap (λ (p : Tree × Tree). p.0) old_pair
      ∙ sym (get_or-map (λ (p : Tree × Tree). p.0) (map as_pair es) n (as_pair old) k within) ∙ there

  pub replaced_is : slice_set (map as_pair es) n (k, a) ≡ with_pair k a (map as_pair es)
  replaced_is = set_placed k a (map as_pair es) n place within there

  pub replaced : Replaces k a old.associate (map as_pair es) (with_pair k a (map as_pair es))
  replaced =
      let P : List (Tree × Tree) → Type 0 = λ qs. Replaces k a old.associate (map as_pair es) qs in
      subst P replaced_is (set_replaces k a old.associate (map as_pair es) n (as_pair old) within old_pair old_key refl)

  pub replace_fault : (m h w : ℕ) → m ≡ length es → h ≡ pairs_height (pairs (with_pair k a (map as_pair es))) → w ≡ pairs_weight (pairs (with_pair k a (map as_pair es))) + 5 → sizes_fault m h w ≡ size_fault (table (pairs (with_pair k a (map as_pair es))))
  unfolding size_fault
  replace_fault m h w e f g =
      let long : m ≡ count_pairs (pairs (with_pair k a (map as_pair es))) = omega (arith, replaced.size, count_pairs_pairs (with_pair k a (map as_pair es)), length-map es as_pair) in
      λ i. sizes_fault (long i) (f i) (g i)

  pub replace_invariant : (qs : List (Tree × Tree)) (m h w : ℕ) → qs ≡ with_pair k a (map as_pair es) → IsRegular k → IsRegular a → IsRegular (table (pairs (map as_pair es))) → m ≡ length es → h ≡ pairs_height (pairs (with_pair k a (map as_pair es))) → w ≡ pairs_weight (pairs (with_pair k a (map as_pair es))) + 5 → sizes_fault m h w ≡ None → (h ≡ pairs_height (pairs qs)) × (w ≡ pairs_weight (pairs qs) + 5) × IsRegular (table (pairs qs))
  replace_invariant qs m h w is i j was e f g small =
      let s : AreSmall m h w = small_sizes m h w small in
      let o = regular_pairs (map as_pair es) was in
      let count = length-map es as_pair in
      let P : List (Tree × Tree) → Type 0 = λ rs. (h ≡ pairs_height (pairs rs)) × (w ≡ pairs_weight (pairs rs) + 5) × IsRegular (table (pairs rs)) in
      let sizes : AreSmall (length (with_pair k a (map as_pair es))) (pairs_height (pairs (with_pair k a (map as_pair es)))) (pairs_weight (pairs (with_pair k a (map as_pair es))) + 5) = record { long = omega (arith, replaced.size, s.long); high = omega (arith, s.high); heavy = omega (arith, s.heavy) } in
      subst P (sym is) (f, g, table_regular (with_pair k a (map as_pair es)) (omega (arith, replaced.size)) (with_pair_rising k a (map as_pair es) i o.3 o.2) (replaced.regular i j o.3) sizes)

-- ---- a pair fewer
regular_pair_sizes : (ps : List (Tree × Tree)) → IsRegular (table (pairs ps)) → (pairs_height (pairs ps) ≤ MOST_VALUE_HEIGHT) × (pairs_weight (pairs ps) + 5 ≤ MOST_WEIGHT)
unfolding IsRegular
regular_pair_sizes ps r = (r.0.1, r.0.2)

pub lost_invariant : (p : Tree × Tree) (ps qs : List (Tree × Tree)) (n h w v : ℕ) → qs ≡ remove ps n → n < length ps → p ≡ get_or ps n p → length ps ≢ 1 → IsRegular (table (pairs ps)) → h ≡ pairs_height (pairs qs) → w ≡ pairs_weight (pairs ps) + 5 → v ≡ weight_of p.0 + weight_of p.1 → (h ≡ pairs_height (pairs qs)) × (w - v ≡ pairs_weight (pairs qs) + 5) × IsRegular (table (pairs qs))
lost_invariant p ps qs n h w v is inside read several old high heavy light =
    let l : Loses p ps qs = (let P : List (Tree × Tree) → Type 0 = λ rs. Loses p ps rs in subst P (sym is) (remove_loses p ps n inside read)) in
    let o = regular_pairs ps old in
    let s = regular_pair_sizes ps old in
    let sizes : AreSmall (length qs) (pairs_height (pairs qs)) (pairs_weight (pairs qs) + 5) = record { long = omega (arith, l.size, o.1); high = omega (arith, l.height, s.0); heavy = omega (arith, l.weight, s.1) } in
    let P : List (Tree × Tree) → Type 0 = λ rs. IsRising (pairs rs) in
    (high, omega (arith, l.weight), table_regular qs (omega (arith, l.size)) (subst P (sym is) (remove_rising ps n o.3 o.2)) (l.regular o.3) sizes)

-- the last pair leaves `{}`
pub last_lost : (k : Tree) (ps : List (Tree × Tree)) (n : ℕ) → IsPlaceOf k (firsts ps) n → n < length ps → get_or (firsts ps) n k ≡ k → length ps ≡ 1 → empty ≡ table_of (without_key k ps)
last_lost k ps n place inside there one = ap table_of (only_one ps n inside one ∙ remove_placed_key k ps n place inside there)
  where
    only_one : (ps : List (Tree × Tree)) (n : ℕ) → n < length ps → length ps ≡ 1 → [] ≡ remove ps n
    only_one [] n h e = absurd (omega arith)
    only_one (p ∷ []) zero h e = refl
    only_one (p ∷ []) (suc n) h e = absurd (omega arith)
    only_one (p ∷ q ∷ ps) n h e = absurd (omega arith)

pub others_left : (k : Tree) (ps qs : List (Tree × Tree)) (n : ℕ) → qs ≡ remove ps n → IsPlaceOf k (firsts ps) n → n < length ps → get_or (firsts ps) n k ≡ k → length ps ≢ 1 → table (pairs qs) ≡ table_of (without_key k ps)
others_left k ps qs n is place inside there several =
    some_pairs qs (λ e. several (omega (arith, (remove_loses (get_or ps n (k, k)) ps n inside (get_or_same ps n (k, k) inside)).size, ap length is))) ∙ ap table_of (is ∙ remove_placed_key k ps n place inside there)
  where
    some_pairs : (qs : List (Tree × Tree)) → (length qs ≡ 0 → ⊥) → table (pairs qs) ≡ table_of qs
    some_pairs [] h = absurd (h (omega arith))
    some_pairs (q ∷ qs) h = refl

    get_or_same : (ps : List (Tree × Tree)) (n : ℕ) (d : Tree × Tree) → n < length ps → get_or ps n d ≡ get_or ps n (get_or ps n d)
    get_or_same [] n d h = absurd (omega arith)
    get_or_same (p ∷ ps) zero d h = refl
    get_or_same (p ∷ ps) (suc n) d h = get_or_same ps n d (omega arith)

-- ---- looking up
pub absent_key : (k : Tree) (ps : List (Tree × Tree)) (n : ℕ) → IsRising (pairs ps) → AllRegularPairs (pairs ps) → IsPlaceOf k (firsts ps) n → (n < length (firsts ps) → order (get_or (firsts ps) n k) k ≢ Equal) → (n < length (firsts ps) → IsRegular k) → None ≡ associate_of k ps
absent_key k ps n o all place absent regular = no_associate k ps other
  where
    less_not : (i : ℕ) → order (get_or (firsts ps) i k) k ≡ Less → order (get_or (firsts ps) i k) k ≡ Equal → ⊥
    less_not i h e = cc

    other : (i : ℕ) → i < length (firsts ps) → order (get_or (firsts ps) i k) k ≢ Equal
    other i h = elim (cases_lt i n) [
      | inl l ↦ less_not i (place.before i l)
      | inr l ↦ (λ e. nowhere k (firsts ps) n (keys_regular ps all) (keys_ordered ps o) place absent
          (i, h, order-same (get_or (firsts ps) i k) k (regular_at (firsts ps) i k (keys_regular ps all) h) (regular (omega arith)) e))
    ]

pub key_absent : (k : Tree) (ps : List (Tree × Tree)) (n : ℕ) → IsRegular (table (pairs ps)) → IsPlaceOf k (firsts ps) n → (n < length (firsts ps) → order (get_or (firsts ps) n k) k ≢ Equal) → (n < length (firsts ps) → IsRegular k) → None ≡ associate_of k ps
key_absent k ps n old place absent regular = let o = regular_pairs ps old in absent_key k ps n o.2 o.3 place absent regular

pub key_found : (k : Tree) (ps : List (Tree × Tree)) (n : ℕ) → IsPlaceOf k (firsts ps) n → n < length ps → get_or (firsts ps) n k ≡ k → IsSome (associate_of k ps)
key_found k ps n place inside there =
    let P : Option Tree → Type 0 = λ o. IsSome o in
    subst P (found_associate k ps n (k, k) place inside there) refl

pub associate_found : (k : Tree) (es : List Entry) (n : ℕ) (e : Entry) → IsPlaceOf k (firsts (map as_pair es)) n → n < length es → get_or (firsts (map as_pair es)) n k ≡ k → e ≡ get_or es n e → Some e.associate ≡ associate_of k (map as_pair es)
associate_found k es n e place inside there read =
    ap (λ (p : Tree × Tree). Some p.1) (ap as_pair read ∙ sym (get_or-map as_pair es n e (as_pair e) inside))
    ∙ found_associate k (map as_pair es) n (as_pair e) place (omega (arith, length-map es as_pair)) there

-- what the search of entries found, as one of pairs
pub place_of_pairs : (k : Tree) (es : List Entry) (n : ℕ) → IsPlaceOf k (entry_keys es) n → IsPlaceOf k (firsts (map as_pair es)) n
place_of_pairs k es n place = let P : List Tree → Type 0 = λ ks. IsPlaceOf k ks n in subst P (keys_are es) place

pub there_of_pairs : (k : Tree) (es : List Entry) (n : ℕ) → (n < length (entry_keys es)) × (get_or (entry_keys es) n k ≡ k) → (n < length es) × (get_or (firsts (map as_pair es)) n k ≡ k)
there_of_pairs k es n there =
    let P : List Tree → Type 0 = λ ks. get_or ks n k ≡ k in
    (omega (arith, there.0, length-map es (λ (e : Entry). e.key)), subst P (keys_are es) there.1)

pub absent_of_pairs : (k : Tree) (es : List Entry) (n : ℕ) → (n < length (entry_keys es) → order (get_or (entry_keys es) n k) k ≢ Equal) → n < length (firsts (map as_pair es)) → order (get_or (firsts (map as_pair es)) n k) k ≢ Equal
absent_of_pairs k es n absent = let P : List Tree → Type 0 = λ ks. n < length ks → order (get_or ks n k) k ≢ Equal in subst P (keys_are es) absent

-- ---- the first pair
pub one_pair_fault : (k a : Tree) (h w : ℕ) → h ≡ max (height_of k) (height_of a) + 1 → w ≡ weight_of k + weight_of a + 5 → sizes_fault 1 h w ≡ size_fault (table (pair k a no_pairs))
unfolding size_fault
one_pair_fault k a h w e f =
    let high : h ≡ pairs_height (pair k a no_pairs) = omega arith in
    let heavy : w ≡ pairs_weight (pair k a no_pairs) + 5 = omega arith in
    λ i. sizes_fault 1 (high i) (heavy i)

pub one_pair_invariant : (k a : Tree) (ps : List (Tree × Tree)) (h w : ℕ) → ps ≡ (k, a) ∷ [] → IsRegular k → IsRegular a → h ≡ max (height_of k) (height_of a) + 1 → w ≡ weight_of k + weight_of a + 5 → sizes_fault 1 h w ≡ None → (h ≡ pairs_height (pairs ps)) × (w ≡ pairs_weight (pairs ps) + 5) × IsRegular (table (pairs ps))
unfolding AllRegularPairs
one_pair_invariant k a ps h w is i j e f small =
    let s : AreSmall 1 h w = small_sizes 1 h w small in
    let P : List (Tree × Tree) → Type 0 = λ qs. (h ≡ pairs_height (pairs qs)) × (w ≡ pairs_weight (pairs qs) + 5) × IsRegular (table (pairs qs)) in
    let sizes : AreSmall 1 (pairs_height (pair k a no_pairs)) (pairs_weight (pair k a no_pairs) + 5) = record { long = omega arith; high = omega (arith, s.high); heavy = omega (arith, s.heavy) } in
    subst P (sym is) (omega arith, omega arith, table_regular ((k, a) ∷ []) (omega arith) tt (i, j, tt) sizes)

-- what a replacement knows of the table t whose entries are es, at the key k
pub record IsReplacing (k a : Tree) (t : Tree) (es : List Entry) (n : ℕ) (old : Entry) : Type 0 where
  pub inside : n < length es
  pub same : map as_pair es ≡ pairs_of t
  pub same_key : old.key ≡ k
  pub is : map as_pair (slice_set es n (record { key = k; associate = a })) ≡ with_pair k a (map as_pair es)
  pub sizes : Replaces k a old.associate (map as_pair es) (with_pair k a (map as_pair es))
  pub fault : (m h w : ℕ) → m ≡ length es → h ≡ pairs_height (pairs (with_pair k a (map as_pair es))) → w ≡ pairs_weight (pairs (with_pair k a (map as_pair es))) + 5 → sizes_fault m h w ≡ size_fault (table (pairs (with_pair k a (pairs_of t))))
  pub key : IsRegular (table (pairs (map as_pair es))) → IsRegular k
  pub keeps : (qs : List (Tree × Tree)) (m h w : ℕ) → qs ≡ with_pair k a (map as_pair es) → IsRegular k → IsRegular a → IsRegular (table (pairs (map as_pair es))) → m ≡ length es → h ≡ pairs_height (pairs (with_pair k a (map as_pair es))) → w ≡ pairs_weight (pairs (with_pair k a (map as_pair es))) + 5 → sizes_fault m h w ≡ None → (h ≡ pairs_height (pairs qs)) × (w ≡ pairs_weight (pairs qs) + 5) × IsRegular (table (pairs qs))

pub replacing : (k a t : Tree) (es : List Entry) (n : ℕ) (old : Entry) → table (pairs (map as_pair es)) ≡ t → IsPlaceOf k (keys_of t) n → (n < length (keys_of t)) × (get_or (keys_of t) n k ≡ k) → old ≡ get_or es n old → IsReplacing k a t es n old
replacing k a t es n old opened place there read =
    let same = pairs_are (map as_pair es) t opened in
    let P : List (Tree × Tree) → Type 0 = λ ps. IsPlaceOf k (firsts ps) n in
    let Q : List (Tree × Tree) → Type 0 = λ ps. (n < length (firsts ps)) × (get_or (firsts ps) n k ≡ k) in
    let place' = subst P (sym same) place in
    let there' = subst Q (sym same) there in
    let inside : n < length es = omega (arith, there'.0, length-map (map as_pair es) (λ (p : Tree × Tree). p.0), length-map es as_pair) in
    record {
      inside = inside;
      same = same;
      same_key = old_key k a es n old place' inside there'.1 read;
      is = map_set es n _ ∙ replaced_is k a es n old place' inside there'.1 read;
      sizes = replaced k a es n old place' inside there'.1 read;
      fault = λ m h w e f g. replace_fault k a es n old place' inside there'.1 read m h w e f g ∙ ap (λ ps. size_fault (table (pairs (with_pair k a ps)))) same;
      key = λ old. subst IsRegular there'.1 (regular_at (firsts (map as_pair es)) n k (keys_regular (map as_pair es) (regular_pairs (map as_pair es) old).3) there'.0);
      keeps = replace_invariant k a es n old place' inside there'.1 read;
    }
