-- Rows of trees and pairs, as lists.
use Rattle.std.proofs.Common.{◌≡◌, ℕ, zero, suc, List, [], ◌∷◌, length, map, refl, ap, slice_get}
use Rattle.std.specs.Option.{option_map}
use Rattle.abc_value.specs.Tree.{Tree, Trees, Pairs, trees, listed, pairs, listed_pairs, table_of, no_trees, more, no_pairs, pair}
use Rattle.abc_value.specs.Sizes.{count, count_pairs}
use Rattle.abc_value.specs.declared.value.Entry.{Entry}
use Rattle.abc_value.specs.View.{as_pair}
use Rattle.abc_value.specs.Parts.{pairs_of}

pub listed_trees : (xs : List Tree) → listed (trees xs) ≡ xs
listed_trees [] = refl
listed_trees (x ∷ xs) = ap (λ zs. x ∷ zs) (listed_trees xs)

pub trees_listed : (ts : Trees) → trees (listed ts) ≡ ts
trees_listed no_trees = refl
trees_listed (more t ts) = ap (more t) (trees_listed ts)

pub count_trees : (xs : List Tree) → count (trees xs) ≡ length xs
count_trees [] = refl
count_trees (x ∷ xs) = ap suc (count_trees xs)

pub listed_pairs_pairs : (ps : List (Tree × Tree)) → listed_pairs (pairs ps) ≡ ps
listed_pairs_pairs [] = refl
listed_pairs_pairs (p ∷ ps) = ap (λ qs. (p.0, p.1) ∷ qs) (listed_pairs_pairs ps)

pub pairs_listed : (ps : Pairs) → pairs (listed_pairs ps) ≡ ps
pairs_listed no_pairs = refl
pairs_listed (pair k a ps) = ap (pair k a) (pairs_listed ps)

pub pairs_of_table : (ps : List (Tree × Tree)) → pairs_of (table_of ps) ≡ ps
pairs_of_table [] = refl
pairs_of_table (p ∷ ps) = listed_pairs_pairs (p ∷ ps)

pub count_pairs_pairs : (ps : List (Tree × Tree)) → count_pairs (pairs ps) ≡ length ps
count_pairs_pairs [] = refl
count_pairs_pairs (p ∷ ps) = ap suc (count_pairs_pairs ps)

-- a part of a pair of a table is that of the entry at its place
nth_of_parts : (part : Tree × Tree → Tree) (es : List Entry) (i : ℕ) → option_map (λ e. part (as_pair e)) (slice_get es i) ≡ slice_get (map part (listed_pairs (pairs (map as_pair es)))) i
nth_of_parts part [] i = refl
nth_of_parts part (f ∷ fs) zero = refl
nth_of_parts part (f ∷ fs) (suc i) = nth_of_parts part fs i

pub nth_of_keys : (es : List Entry) (i : ℕ) → option_map (λ e. e.key) (slice_get es i) ≡ slice_get (map (λ p. p.0) (listed_pairs (pairs (map as_pair es)))) i
nth_of_keys es i = nth_of_parts (λ p. p.0) es i

pub nth_of_associates : (es : List Entry) (i : ℕ) → option_map (λ e. e.associate) (slice_get es i) ≡ slice_get (map (λ p. p.1) (listed_pairs (pairs (map as_pair es)))) i
nth_of_associates es i = nth_of_parts (λ p. p.1) es i
