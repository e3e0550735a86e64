-- A list with one element fewer.
use Rattle.std.proofs.Common.{◌≡◌, ◌≢◌, ℕ, zero, suc, ◌+◌, ◌-◌, ◌<◌, max, List, [], ◌∷◌, length, get_or, refl, sym, ap, ◌∙◌, subst, arith, inl, inr, Bool, true, false, ◌==◌}
use Rattle.std.proofs.lemmas.List.{get_or_read}
use Rattle.std.specs.List.{remove, Contains}
use Rattle.std.proofs.lemmas.Bool.{cases_lt}
use Rattle.std.specs.declared.cmp.Ordering.{Ordering}
use Rattle.std.specs.declared.cmp.Ordering.TheVariants.{Less, Equal, Greater}
use Rattle.std.specs.Ordering.{ordering_index}
use Rattle.std.specs.Bool.{OnTrue}
use Rattle.abc_value.specs.Tree.{Tree, list, trees}
use Rattle.abc_value.specs.Order.{order}
use Rattle.abc_value.specs.Sizes.{height_of, weight_of, trees_height, trees_weight}
use Rattle.abc_value.specs.Regular.{IsOrdered, IsRegular, AllRegular}
use Rattle.abc_value.specs.Changes.{without, IsPlaceOf}
use Rattle.abc_value.proofs.ordering.OrderLaws.{order-refl, order-same}
use Rattle.abc_value.proofs.lists.Placing.{at_most, rising, later, is_eq_at, not_eq_at, less_not_equal}
use Rattle.abc_value.proofs.trees.Rows.{count_trees}

-- what stands in the list without e
pub record Takes (e : Tree) (xs ys : List Tree) : Type 0 where
  pub size : length xs ≡ length ys + 1
  pub height : trees_height (trees xs) ≡ max (height_of e + 1) (trees_height (trees ys))
  pub weight : trees_weight (trees xs) ≡ weight_of e + trees_weight (trees ys)
  pub regular : AllRegular (trees xs) → AllRegular (trees ys)

pub remove_takes : (e : Tree) (xs : List Tree) (n : ℕ) → n < length xs → e ≡ get_or xs n e → Takes e xs (remove xs n)
unfolding AllRegular
remove_takes e [] n h is = absurd (omega arith)
remove_takes e (x ∷ xs) zero h is = record { size = omega arith; height = omega (arith, ap height_of is); weight = omega (arith, ap weight_of is); regular = λ k. k.1 }
remove_takes e (x ∷ xs) (suc n) h is =
    let t = remove_takes e xs n (omega arith) is in
    record { size = omega (arith, t.size); height = omega (arith, t.height); weight = omega (arith, t.weight); regular = λ k. (k.0, t.regular k.1) }

skipped : (x y : Tree) (xs : List Tree) → AllRegular (trees (x ∷ y ∷ xs)) → IsOrdered (trees (x ∷ y ∷ xs)) → IsOrdered (trees (x ∷ xs))
unfolding AllRegular
skipped x y [] r o = tt
skipped x y (z ∷ zs) r o = (at_most x y z r.0 r.1.0 r.1.1.0 o.0 o.1.0, o.1.1)

pub remove_ordered : (xs : List Tree) (n : ℕ) → AllRegular (trees xs) → IsOrdered (trees xs) → IsOrdered (trees (remove xs n))
unfolding AllRegular
remove_ordered [] zero r o = tt
remove_ordered [] (suc n) r o = tt
remove_ordered (x ∷ []) zero r o = tt
remove_ordered (x ∷ y ∷ ys) zero r o = o.1
remove_ordered (x ∷ []) (suc zero) r o = tt
remove_ordered (x ∷ []) (suc (suc n)) r o = tt
remove_ordered (x ∷ y ∷ ys) (suc zero) r o = skipped x y ys r o
remove_ordered (x ∷ y ∷ ys) (suc (suc n)) r o = (o.0, remove_ordered (y ∷ ys) (suc n) r.1 o.1)

-- what goes at the place of e is what `without` leaves out
pub remove_placed : (e : Tree) (xs : List Tree) (n : ℕ) → IsPlaceOf e xs n → n < length xs → e ≡ get_or xs n e → remove xs n ≡ without e xs
remove_placed e [] n p h is = absurd (omega arith)
remove_placed e (x ∷ xs) zero p h is = is_eq_at (order x e) xs (x ∷ without e xs) (ap (λ y. order y e) (sym is) ∙ order-refl e)
remove_placed e (x ∷ xs) (suc n) p h is =
    ap (λ ys. x ∷ ys) (remove_placed e xs n (later e x xs n p) (omega arith) is) ∙ not_eq_at (order x e) xs (x ∷ without e xs) (less_not_equal _ (p.before 0 (omega arith)))

neither : (r : Ordering) → r ≢ Less → r ≢ Greater → r ≡ Equal
neither Less h k = absurd (h refl)
neither Equal h k = refl
neither Greater h k = absurd (k refl)

less_than_itself : (e x : Tree) → x ≡ e → order x e ≡ Less → ⊥
less_than_itself e x is h = let k : order x e ≡ Equal = ap (λ y. order y e) is ∙ order-refl e in cc

-- what isn't at the place of e isn't in the list
pub nowhere : (e : Tree) (xs : List Tree) (n : ℕ) → AllRegular (trees xs) → IsOrdered (trees xs) → IsPlaceOf e xs n → (n < length xs → order (get_or xs n e) e ≢ Equal) → Contains xs e → ⊥
nowhere e xs n r o p not (k, h, is) = elim (cases_lt k n) [
  | inl l ↦ less_than_itself e (get_or xs k e) is (p.before k l)
  | inr l ↦ (let inside : n < length xs = omega arith in
      not inside (neither _ (p.behind n (omega arith) inside) (let P : Tree → Type 0 = λ y. order (get_or xs n e) y ≢ Greater in subst P is (rising xs n k e r o l h))))
]

-- what the fields of a list hold after e has gone from it
pub taken_invariant : (e : Tree) (xs ys : List Tree) (n h w v : ℕ) → ys ≡ remove xs n → n < length xs → e ≡ get_or xs n e → IsRegular (list (trees xs)) → h ≡ trees_height (trees ys) → w ≡ weight_of (list (trees xs)) → v ≡ weight_of e → (h ≡ height_of (list (trees ys))) × (w - v ≡ weight_of (list (trees ys))) × IsRegular (list (trees ys))
unfolding IsRegular
taken_invariant e xs ys n h w v is inside there old high heavy light =
    let t : Takes e xs ys = (let P : List Tree → Type 0 = λ zs. Takes e xs zs in subst P (sym is) (remove_takes e xs n inside there)) in
    (high, omega (arith, t.weight), ((omega (arith, old.0.0, t.size, count_trees xs, count_trees ys), omega (arith, old.0.1, t.height), omega (arith, old.0.2, t.weight)), (let P : List Tree → Type 0 = λ zs. IsOrdered (trees zs) in subst P (sym is) (remove_ordered xs n old.2 old.1)), t.regular old.2))

-- the element at its place compares as equal only where it is e
pub found_by_test : (e : Tree) (xs : List Tree) (n : ℕ) (x : Tree) (r : Ordering) (b : Bool) → n < length xs → x ≡ get_or xs n x → IsRegular x × IsRegular e → r ≡ order x e → b ≡ (ordering_index r == 1) → OnTrue b ((n < length xs) × (get_or xs n e ≡ e))
found_by_test e xs n x Less b h is k p q = by_false b (q ∙ refl)
  where
    by_false : (b : Bool) → b ≡ false → OnTrue b ((n < length xs) × (get_or xs n e ≡ e))
    by_false true f = absurd (cc)
    by_false false f = tt
found_by_test e xs n x Greater b h is k p q = by_false b (q ∙ refl)
  where
    by_false : (b : Bool) → b ≡ false → OnTrue b ((n < length xs) × (get_or xs n e ≡ e))
    by_false true f = absurd (cc)
    by_false false f = tt
found_by_test e xs n x Equal b h is k p q = on_true b (h, sym (get_or_read xs n x h is e) ∙ order-same x e k.0 k.1 (sym p))
  where
    on_true : (b : Bool) → ((n < length xs) × (get_or xs n e ≡ e)) → OnTrue b ((n < length xs) × (get_or xs n e ≡ e))
    on_true true f = f
    on_true false f = tt
