-- The place of an element in a list in order.
use Rattle.std.proofs.Common.{◌≡◌, ◌≢◌, ℕ, zero, suc, ◌<◌, ◌≤◌, true, false, List, [], ◌∷◌, ◌++◌, length, take, drop, get_or, refl, sym, ap, ◌∙◌, arith, if◌then◌else◌}
use Rattle.std.specs.declared.cmp.Ordering.{Ordering}
use Rattle.std.specs.declared.cmp.Ordering.TheVariants.{Less, Equal, Greater}
use Rattle.std.specs.List.Sorted.{IsPartitionedBy}
use Rattle.std.specs.Ordering.{match_ordering, is_eq, is_lt}
use Rattle.abc_value.specs.Tree.{Tree, trees}
use Rattle.abc_value.specs.Order.{order}
use Rattle.abc_value.specs.Regular.{IsRegular, AllRegular, IsOrdered}
use Rattle.abc_value.specs.Changes.{add, IsPlaceOf}
use Rattle.abc_value.proofs.ordering.OrderLaws.{order-refl, order-same, order-trans}

-- what is at most a lesser element is less
less_by : (x y e : Tree) (r : Ordering) → IsRegular x → IsRegular y → IsRegular e → order x y ≡ r → r ≢ Greater → order y e ≡ Less → order x e ≡ Less
less_by x y e Less i j l p h k = order-trans x y e i j l p k
less_by x y e Equal i j l p h k = ap (λ z. order z e) (order-same x y i j p) ∙ k
less_by x y e Greater i j l p h k = absurd (h refl)

pub less_before : (x y e : Tree) → IsRegular x → IsRegular y → IsRegular e → order x y ≢ Greater → order y e ≡ Less → order x e ≡ Less
less_before x y e i j l h k = less_by x y e (order x y) i j l refl h k

pub not_greater : (r : Ordering) → r ≡ Equal → r ≢ Greater
not_greater r h k = cc

pub less_not_greater : (r : Ordering) → r ≡ Less → r ≢ Greater
less_not_greater r h k = cc

-- what a test for equal answers
pub is_eq_at : {A : Type 0} → (r : Ordering) (x y : A) → r ≡ Equal → x ≡ (if is_eq r then x else y)
is_eq_at Less x y e = cc
is_eq_at Equal x y e = refl
is_eq_at Greater x y e = cc

pub not_eq_at : {A : Type 0} → (r : Ordering) (x y : A) → r ≢ Equal → y ≡ (if is_eq r then x else y)
not_eq_at Less x y h = refl
not_eq_at Equal x y h = absurd (h refl)
not_eq_at Greater x y h = refl

pub less_not_equal : (r : Ordering) → r ≡ Less → r ≢ Equal
less_not_equal r h k = cc

-- x is at most y, and y at most z
at_most_by : (x y z : Tree) (r s : Ordering) → IsRegular x → IsRegular y → IsRegular z → order x y ≡ r → order y z ≡ s → r ≢ Greater → s ≢ Greater → order x z ≢ Greater
at_most_by x y z Greater s i j l p q h k = absurd (h refl)
at_most_by x y z Less Greater i j l p q h k = absurd (k refl)
at_most_by x y z Equal Greater i j l p q h k = absurd (k refl)
at_most_by x y z Less Less i j l p q h k = less_not_greater _ (order-trans x y z i j l p q)
at_most_by x y z Less Equal i j l p q h k = less_not_greater _ (ap (λ w. order x w) (sym (order-same y z j l q)) ∙ p)
at_most_by x y z Equal Less i j l p q h k = less_not_greater _ (ap (λ w. order w z) (order-same x y i j p) ∙ q)
at_most_by x y z Equal Equal i j l p q h k = not_greater _ (ap (λ w. order w z) (order-same x y i j p) ∙ q)

pub at_most : (x y z : Tree) → IsRegular x → IsRegular y → IsRegular z → order x y ≢ Greater → order y z ≢ Greater → order x z ≢ Greater
at_most x y z i j l h k = at_most_by x y z _ _ i j l refl refl h k

-- each element of regular ones is regular
pub regular_at : (xs : List Tree) (i : ℕ) (d : Tree) → AllRegular (trees xs) → i < length xs → IsRegular (get_or xs i d)
unfolding AllRegular
regular_at [] i d r h = absurd (omega arith)
regular_at (x ∷ xs) zero d r h = r.0
regular_at (x ∷ xs) (suc i) d r h = regular_at xs i d r.1 (omega arith)

-- each element is at most each later one
rising_first : (x : Tree) (xs : List Tree) (j : ℕ) (d : Tree) → AllRegular (trees (x ∷ xs)) → IsOrdered (trees (x ∷ xs)) → j < length (x ∷ xs) → order x (get_or (x ∷ xs) j d) ≢ Greater
unfolding AllRegular
rising_first x xs zero d r h l = not_greater _ (order-refl x)
rising_first x [] (suc j) d r h l = absurd (omega arith)
rising_first x (y ∷ ys) (suc j) d r h l =
    at_most x y (get_or (y ∷ ys) j d) r.0 r.1.0 (regular_at (y ∷ ys) j d r.1 (omega arith)) h.0 (rising_first y ys j d r.1 h.1 (omega arith))

pub rising : (xs : List Tree) (i j : ℕ) (d : Tree) → AllRegular (trees xs) → IsOrdered (trees xs) → i ≤ j → j < length xs → order (get_or xs i d) (get_or xs j d) ≢ Greater
unfolding AllRegular
rising [] i j d r h p q = absurd (omega arith)
rising (x ∷ xs) zero j d r h p q = rising_first x xs j d r h q
rising (x ∷ xs) (suc i) zero d r h p q = absurd (omega arith)
rising (x ∷ []) (suc i) (suc j) d r h p q = absurd (omega arith)
rising (x ∷ y ∷ ys) (suc i) (suc j) d r h p q = rising (y ∷ ys) i j d r.1 h.1 (omega arith) (omega arith)

is_less : (r : Ordering) → is_lt r ≡ true → r ≡ Less
is_less Less h = refl
is_less Equal h = cc
is_less Greater h = cc

-- what is less than e stands in front of what isn't
pub parted : (e : Tree) (xs : List Tree) → AllRegular (trees xs) → IsOrdered (trees xs) → IsRegular e → IsPartitionedBy (λ x. is_lt (order x e)) xs
parted e xs r o i = λ k j d p q h.
    ap is_lt (less_before (get_or xs k d) (get_or xs j d) e (regular_at xs k d r (omega (arith, p, q))) (regular_at xs j d r q) i (rising xs k j d r o p q) (is_less _ h))

-- the place that parts the elements is that of e
pub place_found : (e : Tree) (xs : List Tree) (n : ℕ) → n ≤ length xs
    → ((k : ℕ) → k < n → is_lt (order (get_or xs k e) e) ≡ true) → ((k : ℕ) → n ≤ k → k < length xs → is_lt (order (get_or xs k e) e) ≡ false) → IsPlaceOf e xs n
place_found e xs n within passed others = record {
  within = within;
  before = λ k h. is_less _ (passed k h);
  behind = λ k h l m. let q : true ≡ false = sym (ap is_lt m) ∙ others k h l in cc;
}

pub add_here : (x e : Tree) (xs : List Tree) (r : Ordering) → r ≢ Less → e ∷ x ∷ xs ≡ match_ordering r (x ∷ add e xs) (e ∷ x ∷ xs) (e ∷ x ∷ xs)
add_here x e xs Less h = absurd (h refl)
add_here x e xs Equal h = refl
add_here x e xs Greater h = refl

pub later : (e x : Tree) (xs : List Tree) (n : ℕ) → IsPlaceOf e (x ∷ xs) (suc n) → IsPlaceOf e xs n
later e x xs n p = record { within = omega (arith, p.within); before = λ k h. p.before (suc k) (omega arith); behind = λ k h l. p.behind (suc k) (omega arith) (omega arith) }

-- at its place e stands where `add` puts it
pub add_placed : (e : Tree) (xs : List Tree) (n : ℕ) → IsPlaceOf e xs n → take n xs ++ e ∷ drop n xs ≡ add e xs
add_placed e [] zero p = refl
add_placed e [] (suc n) p = absurd (omega (arith, p.within))
add_placed e (x ∷ xs) zero p = add_here x e xs (order x e) (p.behind 0 (omega arith) (omega arith))
add_placed e (x ∷ xs) (suc n) p =
    ap (λ zs. x ∷ zs) (add_placed e xs n (later e x xs n p))
    ∙ ap (λ r. match_ordering r (x ∷ add e xs) (e ∷ x ∷ xs) (e ∷ x ∷ xs)) (sym (p.before 0 (omega arith)))
