-- A part of a value, or a key of it, is lower than the value.
use Rattle.std.proofs.Common.{◌≡◌, ℕ, zero, suc, ◌+◌, ◌<◌, ◌≤◌, map, Some, ap, arith, slice_get}
use Rattle.abc_value.specs.Tree.{Tree, Trees, Pairs, number, text, compound, list, table, no_trees, more, no_pairs, pair, listed, listed_pairs}
use Rattle.abc_value.specs.Parts.{parts_of, keys_of}
use Rattle.abc_value.specs.Sizes.{height_of, trees_height, pairs_height}

element_lower : (ts : Trees) (i : ℕ) (x : Tree) → slice_get (listed ts) i ≡ Some x → height_of x + 1 ≤ trees_height ts
element_lower no_trees i x e = cc
element_lower (more t ts) zero x e = let same : t ≡ x = cc in omega (arith, ap height_of same)
element_lower (more t ts) (suc i) x e = omega (arith, element_lower ts i x e)

associate_lower : (ps : Pairs) (i : ℕ) (x : Tree) → slice_get (map (λ p. p.1) (listed_pairs ps)) i ≡ Some x → height_of x + 1 ≤ pairs_height ps
associate_lower no_pairs i x e = cc
associate_lower (pair k a ps) zero x e = let same : a ≡ x = cc in omega (arith, ap height_of same)
associate_lower (pair k a ps) (suc i) x e = omega (arith, associate_lower ps i x e)

key_of_lower : (ps : Pairs) (i : ℕ) (x : Tree) → slice_get (map (λ p. p.0) (listed_pairs ps)) i ≡ Some x → height_of x + 1 ≤ pairs_height ps
key_of_lower no_pairs i x e = cc
key_of_lower (pair k a ps) zero x e = let same : k ≡ x = cc in omega (arith, ap height_of same)
key_of_lower (pair k a ps) (suc i) x e = omega (arith, key_of_lower ps i x e)

pub part_lower : (t : Tree) (i : ℕ) (x : Tree) → slice_get (parts_of t) i ≡ Some x → height_of x < height_of t
part_lower (number n) i x e = cc
part_lower (text b) i x e = cc
part_lower (compound ts) i x e = omega (arith, element_lower ts i x e)
part_lower (list ts) i x e = omega (arith, element_lower ts i x e)
part_lower (table ps) i x e = omega (arith, associate_lower ps i x e)

pub key_lower : (t : Tree) (i : ℕ) (x : Tree) → slice_get (keys_of t) i ≡ Some x → height_of x < height_of t
key_lower (number n) i x e = cc
key_lower (text b) i x e = cc
key_lower (compound ts) i x e = cc
key_lower (list ts) i x e = cc
key_lower (table ps) i x e = omega (arith, key_of_lower ps i x e)
