-- The keys of a table, as a list in order, and the entries as pairs.
use Rattle.std.proofs.Common.{◌≡◌, ℕ, zero, suc, ◌+◌, ◌<◌, ◌≤◌, true, false, max, List, [], ◌∷◌, length, map, take, get_or, refl, sym, ap, ◌∙◌, subst, arith, add-one}
use Rattle.std.specs.List.{remove, insert, slice_set}
use Rattle.std.specs.List.Sorted.{IsPartitionedBy, IsPartitionPoint}
use Rattle.std.specs.Ordering.{is_lt}
use Rattle.std.proofs.lemmas.List.{length-map, get_or-map}
use Rattle.abc_value.specs.Tree.{Tree, table, trees, pairs}
use Rattle.abc_value.specs.Regular.{IsRegular, AllRegular, AllRegularPairs, IsOrdered, IsRising}
use Rattle.abc_value.specs.declared.value.Entry.{Entry}
use Rattle.abc_value.specs.View.{as_pair, entry_keys}
use Rattle.abc_value.specs.Parts.{pairs_of, keys_of}
use Rattle.abc_value.proofs.trees.Rows.{listed_pairs_pairs}
use Rattle.abc_value.specs.Sizes.{height_of, pairs_height}
use Rattle.abc_value.specs.Changes.{IsPlaceOf}
use Rattle.abc_value.specs.Order.{order}
use Rattle.abc_value.proofs.lists.Placing.{less_not_greater, parted, place_found}

-- the keys of pairs
abbrev pub firsts : List (Tree × Tree) → List Tree
firsts ps = map (λ p. p.0) ps

pub keys_are : (es : List Entry) → entry_keys es ≡ firsts (map as_pair es)
keys_are [] = refl
keys_are (e ∷ es) = ap (λ ks. e.key ∷ ks) (keys_are es)

pub keys_ordered : (ps : List (Tree × Tree)) → IsRising (pairs ps) → IsOrdered (trees (firsts ps))
keys_ordered [] r = tt
keys_ordered (p ∷ []) r = tt
keys_ordered (p ∷ q ∷ ps) r = (less_not_greater _ r.0, keys_ordered (q ∷ ps) r.1)

pub keys_regular : (ps : List (Tree × Tree)) → AllRegularPairs (pairs ps) → AllRegular (trees (firsts ps))
unfolding AllRegular AllRegularPairs
keys_regular [] r = tt
keys_regular (p ∷ ps) r = (r.0, keys_regular ps r.2)

-- the keys of entries in order, for the search
pub search_keys : (es : List Entry) → IsRising (pairs (map as_pair es)) → AllRegularPairs (pairs (map as_pair es)) → IsOrdered (trees (entry_keys es)) × AllRegular (trees (entry_keys es))
search_keys es o r =
    let P : List Tree → Type 0 = λ ks. IsOrdered (trees ks) × AllRegular (trees ks) in
    subst P (sym (keys_are es)) (keys_ordered (map as_pair es) o, keys_regular (map as_pair es) r)

-- the pairs of a table that is a value are in order, and values
pub table_parts : (ps : List (Tree × Tree)) (t : Tree) → t ≡ table (pairs ps) → IsRegular t → IsRising (pairs ps) × AllRegularPairs (pairs ps)
unfolding IsRegular
table_parts ps t e h = let h' = subst IsRegular e h in (h'.2, h'.3)

pub pairs_are : (ps : List (Tree × Tree)) (t : Tree) → table (pairs ps) ≡ t → ps ≡ pairs_of t
pairs_are ps t e = sym (listed_pairs_pairs ps) ∙ ap pairs_of e

pub keys_of_are : (es : List Entry) (t : Tree) → table (pairs (map as_pair es)) ≡ t → entry_keys es ≡ keys_of t
keys_of_are es t e = keys_are es ∙ ap firsts (pairs_are (map as_pair es) t e)

-- a change of the entries is one of the pairs
pub map_set : (es : List Entry) (n : ℕ) (e : Entry) → map as_pair (slice_set es n e) ≡ slice_set (map as_pair es) n (as_pair e)
map_set [] n e = refl
map_set (f ∷ fs) zero e = refl
map_set (f ∷ fs) (suc n) e = ap (λ ps. as_pair f ∷ ps) (map_set fs n e)

pub map_insert : (es : List Entry) (n : ℕ) (e : Entry) → map as_pair (insert es n e) ≡ insert (map as_pair es) n (as_pair e)
map_insert es zero e = refl
map_insert [] (suc n) e = refl
map_insert (f ∷ fs) (suc n) e = ap (λ ps. as_pair f ∷ ps) (map_insert fs n e)

pub map_remove : (es : List Entry) (n : ℕ) → map as_pair (remove es n) ≡ remove (map as_pair es) n
map_remove [] zero = refl
map_remove [] (suc n) = refl
map_remove (f ∷ fs) zero = refl
map_remove (f ∷ fs) (suc n) = ap (λ ps. as_pair f ∷ ps) (map_remove fs n)

-- to write back what stood there changes nothing
pub set_back : (es : List Entry) (n : ℕ) (e f : Entry) → f ≡ get_or es n f → slice_set (slice_set es n e) n f ≡ es
set_back [] n e f is = refl
set_back (g ∷ gs) zero e f is = ap (λ h. h ∷ gs) is
set_back (g ∷ gs) (suc n) e f is = ap (λ hs. g ∷ hs) (set_back gs n e f is)

entry_key_at : (es : List Entry) (n : ℕ) (d : Entry) → n < length es → get_or (entry_keys es) n d.key ≡ (get_or es n d).key
entry_key_at es n d inside = get_or-map (λ (f : Entry). f.key) es n d d.key inside

-- entries whose keys are less than k stand in front of the others
pub keys_parted : (k : Tree) (es : List Entry) → IsRising (pairs (map as_pair es)) → AllRegularPairs (pairs (map as_pair es)) → IsRegular k → IsPartitionedBy (λ (e : Entry). is_lt (order e.key k)) es
keys_parted k es o r i = λ m n d p q h.
    let s = search_keys es o r in
    let count = length-map es (λ (e : Entry). e.key) in
    ap (λ t. is_lt (order t k)) (sym (entry_key_at es m d (omega (arith, p, q))))
    ∙ parted k (entry_keys es) s.1 s.0 i m n d.key p (omega (arith, q, count)) (ap (λ t. is_lt (order t k)) (entry_key_at es n d q) ∙ h)

-- the place that parts the entries is that of k among the keys
pub key_place : (k : Tree) (es : List Entry) (n : ℕ) → n ≤ length es → IsPartitionPoint (λ (e : Entry). is_lt (order e.key k) ≡ true) (λ (e : Entry). is_lt (order e.key k) ≡ false) es n → IsPlaceOf k (entry_keys es) n
key_place k es n within s =
    let d : Entry = record { key = k; associate = k } in
    let count = length-map es (λ (e : Entry). e.key) in
    place_found k (entry_keys es) n (omega (arith, within, count))
    (λ m h. ap (λ t. is_lt (order t k)) (entry_key_at es m d (omega (arith, h, within))) ∙ s.0 m d (omega arith) h)
    (λ m h l. ap (λ t. is_lt (order t k)) (entry_key_at es m d (omega (arith, l, count))) ∙ s.1 m d h (omega (arith, l, count)))

pub key_read : (es : List Entry) (n : ℕ) (e : Entry) → n < length es → e ≡ get_or es n e → e.key ≡ get_or (entry_keys es) n e.key
key_read es n e inside is = ap (λ (f : Entry). f.key) is ∙ sym (get_or-map (λ (f : Entry). f.key) es n e e.key inside)

-- ---- the height of entries, one after the other
pairs_height_suc : (es : List Entry) (i : ℕ) (e : Entry) → i < length es → e ≡ get_or es i e → pairs_height (pairs (map as_pair (take (suc i) es))) ≡ max (pairs_height (pairs (map as_pair (take i es)))) (max (height_of e.key) (height_of e.associate) + 1)
pairs_height_suc [] i e h is = absurd (omega arith)
pairs_height_suc (f ∷ fs) zero e h is = omega (arith, ap (λ (g : Entry). height_of g.key) is, ap (λ (g : Entry). height_of g.associate) is)
pairs_height_suc (f ∷ fs) (suc i) e h is = omega (arith, pairs_height_suc fs i e (omega arith) is)

pub taller_entry : (es : List Entry) (i h k : ℕ) (e : Entry) → i < length es → e ≡ get_or es i e → h ≡ pairs_height (pairs (map as_pair (take i es))) → k ≡ max h (max (height_of e.key) (height_of e.associate) + 1) → k ≡ pairs_height (pairs (map as_pair (take (i + 1) es)))
taller_entry es i h k e l is p q =
    let P : ℕ → Type 0 = λ j. k ≡ pairs_height (pairs (map as_pair (take j es))) in
    subst P (sym (add-one i)) (omega (arith, pairs_height_suc es i e l is))

pub front_pairs_height : (es : List Entry) (i : ℕ) → pairs_height (pairs (map as_pair (take i es))) ≤ pairs_height (pairs (map as_pair es))
front_pairs_height [] zero = omega arith
front_pairs_height [] (suc i) = omega arith
front_pairs_height (e ∷ es) zero = omega arith
front_pairs_height (e ∷ es) (suc i) = omega (arith, front_pairs_height es i)
