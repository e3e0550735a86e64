-- A search by halves in a list in order.
use Rattle.std.proofs.Common.{◌≡◌, ◌≢◌, ℕ, zero, suc, ◌+◌, ◌<◌, ◌≤◌, List, [], ◌∷◌, length, get_or, refl, sym, ap, ◌∙◌, arith, Bool, true, false, cond, ◌||◌, nat_lt, ◌==◌, take, ◌++◌}
use mir.Val.{bool_byte}
use Rattle.std.specs.declared.cmp.Ordering.{Ordering}
use Rattle.std.specs.declared.cmp.Ordering.TheVariants.{Less, Equal, Greater}
use Rattle.std.specs.List.{count_by, list_any}
use Rattle.std.specs.Ordering.{is_eq, is_lt, ordering_index}
use Rattle.std.proofs.lemmas.Bool.Decides.{nat_tests}
use Rattle.std.proofs.lemmas.List.{take_more}
use Rattle.std.proofs.lemmas.List.Sums.{sum_by-append}
use Rattle.abc_value.specs.Tree.{Tree, trees}
use Rattle.abc_value.specs.Order.{order}
use Rattle.abc_value.specs.Regular.{IsRegular, AllRegular, IsOrdered}
use Rattle.abc_value.proofs.lists.Placing.{less_before, at_most, regular_at, rising}
use Rattle.abc_predef.specs.declared.trains.Side.{Side}
use Rattle.abc_predef.specs.declared.trains.Side.TheVariants.{Below, UpTo}
use Rattle.abc_value.specs.Items.{elements_of}
use Rattle.abc_predef.specs.inner.Places.{element_at, is_on}

-- what stands below low is on the side, and what stands from high on is not
pub record Between (side : Side) (e : Tree) (xs : List Tree) (low high : ℕ) : Type 0 where
  pub met : low ≤ high
  pub within : high ≤ length xs
  pub before : (k : ℕ) → k < low → is_on side (order (get_or xs k e) e) ≡ true
  pub behind : (k : ℕ) → high ≤ k → k < length xs → is_on side (order (get_or xs k e) e) ≡ false

pub between_all : (side : Side) (e : Tree) (xs : List Tree) (n : ℕ) → n ≡ length xs → Between side e xs 0 n
between_all side e xs n h = record { met = omega arith; within = omega arith; before = λ k l. absurd (omega arith); behind = λ k l m. absurd (omega arith) }

pub is_less : (o : Ordering) → is_lt o ≡ true → o ≡ Less
is_less Less h = refl
is_less Equal h = absurd (cc)
is_less Greater h = absurd (cc)

is_at_most : (o : Ordering) → is_on UpTo o ≡ true → o ≢ Greater
is_at_most Less h k = cc
is_at_most Equal h k = cc
is_at_most Greater h k = cc

at_most_is : (o : Ordering) → o ≢ Greater → is_on UpTo o ≡ true
at_most_is Less h = refl
at_most_is Equal h = refl
at_most_is Greater h = absurd (h refl)

-- what is at most a value on the side is on the side
on_before : (side : Side) (x y e : Tree) → IsRegular x → IsRegular y → IsRegular e → order x y ≢ Greater → is_on side (order y e) ≡ true → is_on side (order x e) ≡ true
on_before Below x y e i j l h k = ap (is_on Below) (less_before x y e i j l h (is_less (order y e) k))
on_before UpTo x y e i j l h k = at_most_is (order x e) (at_most x y e i j l h (is_at_most (order y e) k))

not_on_after : (side : Side) (x y e : Tree) (b : Bool) → b ≡ is_on side (order y e) → IsRegular x → IsRegular y → IsRegular e → order x y ≢ Greater → is_on side (order x e) ≡ false → is_on side (order y e) ≡ false
not_on_after side x y e true q i j l h k = let f = on_before side x y e i j l h (sym q) in absurd (cc)
not_on_after side x y e false q i j l h k = sym q

module _ (side : Side) (e : Tree) (xs : List Tree) (low high m : ℕ) (x : Tree) (r : AllRegular (trees xs)) (o : IsOrdered (trees xs)) (i : IsRegular e) (b : Between side e xs low high) (p : low ≤ m) (q : m < high) (is : get_or xs m e ≡ x) where
  inside : m < length xs
  inside = omega (arith, b.within)

  pub move_low : is_on side (order x e) ≡ true → Between side e xs (m + 1) high
  move_low on = record {
    met = omega arith;
    within = b.within;
    behind = b.behind;
    before = λ k h. on_before side (get_or xs k e) (get_or xs m e) e (regular_at xs k e r (omega (arith, inside))) (regular_at xs m e r inside) i
        (rising xs k m e r o (omega arith) inside) (ap (λ y. is_on side (order y e)) is ∙ on);
  }

  pub move_high : is_on side (order x e) ≡ false → Between side e xs low m
  move_high off = record {
    met = p;
    within = omega (arith, inside);
    before = b.before;
    behind = λ k h l. not_on_after side (get_or xs m e) (get_or xs k e) e (is_on side (order (get_or xs k e) e)) refl (regular_at xs m e r inside) (regular_at xs k e r l) i
        (rising xs m k e r o h l) (ap (λ y. is_on side (order y e)) is ∙ off);
  }

count_cons : (f : Tree → Bool) (x : Tree) (xs : List Tree) → count_by f (x ∷ xs) ≡ cond (f x) 1 0 + count_by f xs
count_cons f x xs =
    let e : count_by f (x ∷ xs) ≡ 0 + cond (f x) 1 0 + count_by f xs = sum_by-append (λ y. cond (f y) 1 0) (x ∷ []) xs in
    omega (arith, e)

none_on : (f : Tree → Bool) (e : Tree) (xs : List Tree) → ((k : ℕ) → k < length xs → f (get_or xs k e) ≡ false) → count_by f xs ≡ 0
none_on f e [] h = refl
none_on f e (x ∷ xs) h =
    let rest = none_on f e xs (λ k l. h (suc k) (omega arith)) in
    count_cons f x xs ∙ ap (λ b. cond b 1 0 + count_by f xs) (h 0 (omega arith)) ∙ (let g : 0 + count_by f xs ≡ 0 = omega (arith, rest) in g)

-- where all in front are on the side and none behind is, the front is counted
pub front_counted : (f : Tree → Bool) (e : Tree) (xs : List Tree) (n : ℕ) → n ≤ length xs → ((k : ℕ) → k < n → f (get_or xs k e) ≡ true) → ((k : ℕ) → n ≤ k → k < length xs → f (get_or xs k e) ≡ false) → n ≡ count_by f xs
front_counted f e xs zero l h k = sym (none_on f e xs (λ i m. k i (omega arith) m))
front_counted f e [] (suc n) l h k = absurd (omega arith)
front_counted f e (x ∷ xs) (suc n) l h k =
    let rest = front_counted f e xs n (omega arith) (λ i m. h (suc i) (omega arith)) (λ i m q. k (suc i) (omega arith) (omega arith)) in
    sym (count_cons f x xs ∙ ap (λ b. cond b 1 0 + count_by f xs) (h 0 (omega arith)) ∙ (let g : 1 + count_by f xs ≡ suc n = omega (arith, rest) in g))

pub halves_met : (side : Side) (e : Tree) (xs : List Tree) (low high : ℕ) → Between side e xs low high → high ≤ low → low ≡ count_by (λ x. is_on side (order x e)) xs
halves_met side e xs low high b h =
    front_counted (λ x. is_on side (order x e)) e xs low (omega (arith, b.met, b.within)) b.before (λ k l m. b.behind k (omega (arith, b.met)) m)

on_both : (o : Ordering) → cond (is_on UpTo o) 1 0 ≡ cond (is_on Below o) 1 0 + cond (is_eq o) 1 0
on_both Less = refl
on_both Equal = refl
on_both Greater = refl

-- those that are not greater are those that are less and those that are equal
pub sides_count : (e : Tree) (xs : List Tree) → count_by (λ x. is_on UpTo (order x e)) xs ≡ count_by (λ x. is_on Below (order x e)) xs + count_by (λ x. is_eq (order x e)) xs
sides_count e [] = refl
sides_count e (x ∷ xs) =
    omega (arith, on_both (order x e), sides_count e xs, count_cons (λ y. is_on UpTo (order y e)) x xs, count_cons (λ y. is_on Below (order y e)) x xs, count_cons (λ y. is_eq (order y e)) x xs)

one_more : (b r : Bool) (n : ℕ) → nat_lt 0 n ≡ r → nat_lt 0 (cond b 1 0 + n) ≡ (b || r)
one_more true r n e = grind (arith, nat_tests)
one_more false r n e = let z : 0 + n ≡ n = omega arith in ap (nat_lt 0) z ∙ e

-- there is one where there are more than none
pub any_is : (f : Tree → Bool) (xs : List Tree) → nat_lt 0 (count_by f xs) ≡ list_any f xs
any_is f [] = refl
any_is f (x ∷ xs) = ap (nat_lt 0) (count_cons f x xs) ∙ one_more (f x) (list_any f xs) (count_by f xs) (any_is f xs)

pub count_next : (f : Tree → Bool) (xs : List Tree) (i : ℕ) (d : Tree) → i < length xs → count_by f (take (i + 1) xs) ≡ count_by f (take i xs) + cond (f (get_or xs i d)) 1 0
count_next f xs i d h =
    let e : count_by f (take i xs ++ get_or xs i d ∷ []) ≡ count_by f (take i xs) + (0 + cond (f (get_or xs i d)) 1 0) = sum_by-append (λ x. cond (f x) 1 0) (take i xs) (get_or xs i d ∷ []) in
    ap (count_by f) (take_more xs i d h) ∙ (let g : count_by f (take i xs ++ get_or xs i d ∷ []) ≡ count_by f (take i xs) + cond (f (get_or xs i d)) 1 0 = omega (arith, e) in g)

-- the count of those that equal e, with one more
pub count_more : (e t : Tree) (i n k : ℕ) → i < length (elements_of t) → (n ≡ count_by (λ x. is_eq (order x e)) (take i (elements_of t))) × (n ≤ i) → k ≡ cond (is_eq (order (element_at t i) e)) 1 0 → (n + k ≡ count_by (λ x. is_eq (order x e)) (take (i + 1) (elements_of t))) × (n + k ≤ i + 1)
count_more e t i n k h m is =
    let one : (b : Bool) → cond b 1 0 ≤ 1 = λ b. elim b as (λ b. cond b 1 0 ≤ 1) [ true ↦ omega arith | false ↦ omega arith ] in
    let next = count_next (λ x. is_eq (order x e)) (elements_of t) i t h in
    (omega (arith, m.0, is, next), omega (arith, m.1, is, one (is_eq (order (element_at t i) e))))

pub index_of_equal : (o : Ordering) → (ordering_index o == 1) ≡ is_eq o
index_of_equal Less = refl
index_of_equal Equal = refl
index_of_equal Greater = refl

pub byte_is : (b : Bool) → bool_byte b ≡ cond b 1 0
byte_is true = refl
byte_is false = refl

or_true : (t : Bool) → (t || true) ≡ true
or_true true = refl
or_true false = refl

-- one that passes is among them
pub one_at : (f : Tree → Bool) (xs : List Tree) (i : ℕ) (d : Tree) → i < length xs → f (get_or xs i d) ≡ true → list_any f xs ≡ true
one_at f [] i d h e = absurd (omega arith)
one_at f (x ∷ xs) zero d h e = ap (λ t. t || list_any f xs) e
one_at f (x ∷ xs) (suc i) d h e = ap (λ t. f x || t) (one_at f xs i d (omega arith) e) ∙ or_true (f x)
