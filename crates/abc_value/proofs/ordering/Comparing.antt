-- Steps of the comparison of two rows.
use Rattle.std.proofs.Common.{◌≡◌, ℕ, zero, suc, ◌+◌, ◌<◌, ◌≤◌, min, List, [], ◌∷◌, length, map, get_or, arith, ap}
use Rattle.std.specs.declared.cmp.Ordering.TheVariants.{Less, Equal, Greater}
use Rattle.std.specs.Ordering.{nat_cmp}
use Rattle.std.proofs.lemmas.Bool.Decides.{nat_tests}
use Rattle.abc_value.specs.Tree.{Tree, trees, pairs}
use Rattle.abc_value.specs.Sizes.{height_of, trees_height, pairs_height}
use Rattle.abc_value.specs.declared.value.Entry.{Entry}
use Rattle.abc_value.specs.View.{as_pair}
use Rattle.abc_value.specs.Order.{trees_order, pairs_order}

-- a part is lower than the whole
pub part_below : (xs : List Tree) (i : ℕ) (x : Tree) → i < length xs → x ≡ get_or xs i x → height_of x + 1 ≤ trees_height (trees xs)
part_below [] i x h e = absurd (omega arith)
part_below (y ∷ ys) zero x h e = omega (arith, ap height_of e)
part_below (y ∷ ys) (suc i) x h e = omega (arith, part_below ys i x (omega arith) e)

pub entry_below : (es : List Entry) (i : ℕ) (e : Entry) → i < length es → e ≡ get_or es i e → (height_of e.key + 1 ≤ pairs_height (pairs (map as_pair es))) × (height_of e.associate + 1 ≤ pairs_height (pairs (map as_pair es)))
entry_below [] i e h is = absurd (omega arith)
entry_below (y ∷ ys) zero e h is = (omega (arith, ap (λ (f : Entry). height_of f.key) is), omega (arith, ap (λ (f : Entry). height_of f.associate) is))
entry_below (y ∷ ys) (suc i) e h is =
    let p = entry_below ys i e (omega arith) is in
    (omega (arith, p.0), omega (arith, p.1))

level : (m n : ℕ) → m ≡ n → Equal ≡ nat_cmp m n
level m n h = grind (arith, nat_tests)

shorter : (m n : ℕ) → m < n → Less ≡ nat_cmp m n
shorter m n h = grind (arith, nat_tests)

longer : (m n : ℕ) → n < m → Greater ≡ nat_cmp m n
longer m n h = grind (arith, nat_tests)

pub order_at_end : (k m n : ℕ) (us vs : List Tree) → min (length us) (length vs) ≡ 0 → length us + k ≡ m → length vs + k ≡ n → trees_order (trees us) (trees vs) ≡ nat_cmp m n
order_at_end k m n [] [] h p q = level m n (omega arith)
order_at_end k m n [] (v ∷ vs) h p q = shorter m n (omega arith)
order_at_end k m n (u ∷ us) [] h p q = longer m n (omega arith)
order_at_end k m n (u ∷ us) (v ∷ vs) h p q = absurd (omega arith)

pub pairs_at_end : (k m n : ℕ) (us vs : List Entry) → min (length us) (length vs) ≡ 0 → length us + k ≡ m → length vs + k ≡ n → pairs_order (pairs (map as_pair us)) (pairs (map as_pair vs)) ≡ nat_cmp m n
pairs_at_end k m n [] [] h p q = level m n (omega arith)
pairs_at_end k m n [] (v ∷ vs) h p q = shorter m n (omega arith)
pairs_at_end k m n (u ∷ us) [] h p q = longer m n (omega arith)
pairs_at_end k m n (u ∷ us) (v ∷ vs) h p q = absurd (omega arith)
