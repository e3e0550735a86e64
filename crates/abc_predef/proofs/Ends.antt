-- The ends of a list in order: what passes a test stands in front, and the least and the greatest at the ends.
use Rattle.std.proofs.Common.{◌≡◌, ◌≢◌, ℕ, zero, suc, ◌+◌, ◌-◌, ◌<◌, ◌≤◌, List, [], ◌∷◌, ◌++◌, length, take, drop, get_or, refl, sym, ap, ◌∙◌, subst, arith, Bool, true, false, cond, not, nat_lt, Option, Some, None}
use Rattle.std.specs.Prelude.{if◌then◌else◌}
use Rattle.std.specs.declared.cmp.Ordering.{Ordering}
use Rattle.std.specs.declared.cmp.Ordering.TheVariants.{Less, Equal, Greater}
use Rattle.std.specs.Ordering.{is_lt, is_gt, is_le, ordering_reverse}
use Rattle.std.specs.List.{filter, AllByRecursion}
use Rattle.std.proofs.lemmas.Bool.Decides.{nat_tests}
use Rattle.std.proofs.lemmas.List.{take_more}
use Rattle.abc_value.specs.Tree.{Tree, trees}
use Rattle.abc_value.specs.Order.{order}
use Rattle.abc_value.specs.Regular.{IsRegular, AllRegular, IsOrdered}
use Rattle.abc_value.specs.Parts.{IsList}
use Rattle.abc_value.specs.Items.{elements_of}
use Rattle.abc_value.proofs.ordering.OrderLaws.{order-reverse, order-same}
use Rattle.abc_value.proofs.lists.Placing.{regular_at, rising}
use Rattle.abc_predef.specs.declared.extremes.Extreme.TheVariants.{Least, Greatest}
use Rattle.abc_predef.specs.declared.trains.Side.{Side}
use Rattle.abc_predef.specs.declared.trains.Side.TheVariants.{Below, UpTo}
use Rattle.abc_predef.specs.Trains.{better, best_with, best_of}
use Rattle.abc_predef.specs.inner.Places.{IsFront, IsPlaceOfBest, before, element_at, is_on, is_wanted}
use Rattle.abc_predef.proofs.Bests.{best_more}
use Rattle.abc_predef.proofs.Elements.{list_elements}
use Rattle.abc_predef.proofs.Halves.{Between}

-- an element that is there is the same whatever is given for one that isn't
same_there : (xs : List Tree) (k : ℕ) (d e : Tree) → k < length xs → get_or xs k d ≡ get_or xs k e
same_there [] k d e h = absurd (omega arith)
same_there (x ∷ xs) zero d e h = refl
same_there (x ∷ xs) (suc k) d e h = same_there xs k d e (omega arith)

-- where the halves have met, what is on the side stands in front
pub front_met : (side : Side) (e t : Tree) (low high : ℕ) → Between side e (elements_of t) low high → high ≤ low → IsFront (λ x. is_on side (order x e)) t low
front_met side e t low high b h =
    let xs = elements_of t in
    record {
      within = omega (arith, b.met, b.within);
      before = λ k l. ap (λ x. is_on side (order x e)) (same_there xs k t e (omega (arith, b.met, b.within))) ∙ b.before k l;
      behind = λ k l m. ap (λ x. is_on side (order x e)) (same_there xs k t e m) ∙ b.behind k (omega (arith, b.met)) m;
    }

-- ---- a test that the front passes
filter_none : (f : Tree → Bool) (xs : List Tree) (d : Tree) → ((k : ℕ) → k < length xs → f (get_or xs k d) ≡ false) → filter f xs ≡ []
filter_none f [] d h = refl
filter_none f (x ∷ xs) d h = ap (λ b. cond b (x ∷ filter f xs) (filter f xs)) (h 0 (omega arith)) ∙ filter_none f xs d (λ k l. h (suc k) (omega arith))

filter_front : (f : Tree → Bool) (xs : List Tree) (d : Tree) (n : ℕ) → n ≤ length xs → ((k : ℕ) → k < n → f (get_or xs k d) ≡ true) → ((k : ℕ) → n ≤ k → k < length xs → f (get_or xs k d) ≡ false) → filter f xs ≡ take n xs
filter_front f xs d zero l h g = filter_none f xs d (λ k m. g k (omega arith) m)
filter_front f [] d (suc n) l h g = absurd (omega arith)
filter_front f (x ∷ xs) d (suc n) l h g =
    ap (λ b. cond b (x ∷ filter f xs) (filter f xs)) (h 0 (omega arith))
    ∙ ap (λ ys. x ∷ ys) (filter_front f xs d n (omega arith) (λ k m. h (suc k) (omega arith)) (λ k m q. g (suc k) (omega arith) (omega arith)))

filter_all : (f : Tree → Bool) (xs : List Tree) (d : Tree) → ((k : ℕ) → k < length xs → f (get_or xs k d) ≡ true) → filter f xs ≡ xs
filter_all f [] d h = refl
filter_all f (x ∷ xs) d h = ap (λ b. cond b (x ∷ filter f xs) (filter f xs)) (h 0 (omega arith)) ∙ ap (λ ys. x ∷ ys) (filter_all f xs d (λ k l. h (suc k) (omega arith)))

filter_back : (f : Tree → Bool) (xs : List Tree) (d : Tree) (n : ℕ) → n ≤ length xs → ((k : ℕ) → k < n → f (get_or xs k d) ≡ false) → ((k : ℕ) → n ≤ k → k < length xs → f (get_or xs k d) ≡ true) → filter f xs ≡ drop n xs
filter_back f xs d zero l h g = filter_all f xs d (λ k m. g k (omega arith) m)
filter_back f [] d (suc n) l h g = absurd (omega arith)
filter_back f (x ∷ xs) d (suc n) l h g =
    ap (λ b. cond b (x ∷ filter f xs) (filter f xs)) (h 0 (omega arith))
    ∙ filter_back f xs d n (omega arith) (λ k m. h (suc k) (omega arith)) (λ k m q. g (suc k) (omega arith) (omega arith))

-- ---- the least of elements in order is the first
turned_less : (r s : Ordering) → r ≢ Greater → s ≡ ordering_reverse r → is_lt s ≡ false
turned_less Less s h e = ap is_lt e
turned_less Equal s h e = ap is_lt e
turned_less Greater s h e = absurd (h refl)

first_stays : (x : Tree) (ys : List Tree) → AllByRecursion (λ y. order x y ≢ Greater) ys → best_with Least x ys ≡ x
first_stays x [] a = refl
first_stays x (y ∷ ys) a =
    ap (λ b. best_with Least (if b then y else x) ys) (turned_less (order x y) (order y x) a.0 (order-reverse y x)) ∙ first_stays x ys a.1

all_behind : (P : Tree → Type 0) (xs : List Tree) (d : Tree) (n : ℕ) → ((k : ℕ) → n ≤ k → k < length xs → P (get_or xs k d)) → AllByRecursion P (drop n xs)
all_behind P [] d zero h = tt
all_behind P [] d (suc n) h = tt
all_behind P (x ∷ xs) d zero h = (h 0 (omega arith) (omega arith), all_behind P xs d zero (λ k l m. h (suc k) (omega arith) (omega arith)))
all_behind P (x ∷ xs) d (suc n) h = all_behind P xs d n (λ k l m. h (suc k) (omega arith) (omega arith))

first_behind : (xs : List Tree) (n : ℕ) (d : Tree) → n < length xs → drop n xs ≡ get_or xs n d ∷ drop (suc n) xs
first_behind [] n d h = absurd (omega arith)
first_behind (x ∷ xs) zero d h = refl
first_behind (x ∷ xs) (suc n) d h = first_behind xs n d (omega arith)

nothing_behind : (xs : List Tree) (n : ℕ) → length xs ≤ n → drop n xs ≡ []
nothing_behind [] zero h = refl
nothing_behind [] (suc n) h = refl
nothing_behind (x ∷ xs) zero h = absurd (omega arith)
nothing_behind (x ∷ xs) (suc n) h = nothing_behind xs n (omega arith)

least_is_first : (xs : List Tree) (n : ℕ) (d : Tree) → AllRegular (trees xs) → IsOrdered (trees xs) → n < length xs → best_of Least (drop n xs) ≡ Some (get_or xs n d)
least_is_first xs n d r o h =
    ap (best_of Least) (first_behind xs n d h)
    ∙ ap Some (first_stays (get_or xs n d) (drop (suc n) xs) (all_behind (λ y. order (get_or xs n d) y ≢ Greater) xs d (suc n) (λ k l m. rising xs n k d r o (omega arith) m)))

-- ---- the greatest of elements in order is the last
later_is_better : (x y : Tree) (r s : Ordering) → order x y ≡ r → order y x ≡ s → s ≡ ordering_reverse r → r ≢ Greater → IsRegular x → IsRegular y → (if is_gt s then y else x) ≡ y
later_is_better x y Less s p q e h i j = ap (λ b. if b then y else x) (ap is_gt e)
later_is_better x y Equal s p q e h i j = ap (λ b. if b then y else x) (ap is_gt e) ∙ order-same x y i j p
later_is_better x y Greater s p q e h i j = absurd (h refl)

greatest_is_last : (xs : List Tree) (n : ℕ) (d : Tree) → AllRegular (trees xs) → IsOrdered (trees xs) → suc n ≤ length xs → best_of Greatest (take (suc n) xs) ≡ Some (get_or xs n d)
greatest_is_last [] n d r o h = absurd (omega arith)
greatest_is_last (x ∷ xs) zero d r o h = refl
greatest_is_last (x ∷ xs) (suc n) d r o h =
    let all = x ∷ xs in
    let last = get_or all (suc n) d in
    let one_more : n + 1 ≡ suc n = omega arith in
    let two_more : suc n + 1 ≡ suc (suc n) = omega arith in
    let front : take (suc (suc n)) all ≡ take (suc n) all ++ last ∷ [] = ap (λ k. take k all) (sym two_more) ∙ take_more all (suc n) d (omega arith) in
    ap (best_of Greatest) front
    ∙ best_more Greatest (take (suc n) all) last
    ∙ ap (λ o. Some (with_last o last)) (greatest_is_last all n d r o (omega arith))
    ∙ ap Some (later_is_better (get_or all n d) last (order (get_or all n d) last) (order last (get_or all n d)) refl refl (order-reverse last (get_or all n d)) (rising all n (suc n) d r o (omega arith) (omega arith)) (regular_at all n d r (omega arith)) (regular_at all (suc n) d r (omega arith)))
  where
    with_last : Option Tree → Tree → Tree
    with_last None y = y
    with_last (Some b) y = better Greatest b y

-- ---- the best of those that are wanted
turned : (b : Bool) → not b ≡ true → b ≡ false
turned true e = absurd (cc)
turned false e = refl

turned_back : (b : Bool) → not b ≡ false → b ≡ true
turned_back true e = refl
turned_back false e = absurd (cc)

first_of : (t : Tree) (e : Option Tree) (n : ℕ) (b : Bool) → IsList t → IsRegular t → IsFront (λ x. not (is_wanted Least e x)) t n → nat_lt n (length (elements_of t)) ≡ b
    → IsPlaceOfBest Least t (filter (is_wanted Least e) (elements_of t)) (if b then Some n else None)
first_of t e n true h r f l =
    let xs = elements_of t in
    let parts = list_elements t h r in
    let inside : n < length xs = grind (arith, nat_tests) in
    let wanted : filter (is_wanted Least e) xs ≡ drop n xs = filter_back (is_wanted Least e) xs t n f.within (λ k m. turned (is_wanted Least e (get_or xs k t)) (f.before k m)) (λ k m q. turned_back (is_wanted Least e (get_or xs k t)) (f.behind k m q)) in
    (inside, ap (best_of Least) wanted ∙ least_is_first xs n t parts.1 parts.0 inside)
first_of t e n false h r f l =
    let xs = elements_of t in
    let outside : length xs ≤ n = grind (arith, nat_tests) in
    let wanted : filter (is_wanted Least e) xs ≡ drop n xs = filter_back (is_wanted Least e) xs t n f.within (λ k m. turned (is_wanted Least e (get_or xs k t)) (f.before k m)) (λ k m q. turned_back (is_wanted Least e (get_or xs k t)) (f.behind k m q)) in
    ap (best_of Least) (wanted ∙ nothing_behind xs n outside)

pub least_place : (t : Tree) (e : Option Tree) (n m : ℕ) (o : Option ℕ) → IsList t → IsRegular t → IsFront (λ x. not (is_wanted Least e x)) t n → m ≡ length (elements_of t) → o ≡ (if nat_lt n m then Some n else None)
    → IsPlaceOfBest Least t (filter (is_wanted Least e) (elements_of t)) o
least_place t e n m o h r f l is =
    subst (IsPlaceOfBest Least t (filter (is_wanted Least e) (elements_of t))) (sym (is ∙ ap (λ k. if nat_lt n k then Some n else None) l)) (first_of t e n (nat_lt n (length (elements_of t))) h r f refl)

last_of : (t : Tree) (e : Option Tree) (n : ℕ) → IsList t → IsRegular t → IsFront (is_wanted Greatest e) t (suc n) → IsPlaceOfBest Greatest t (filter (is_wanted Greatest e) (elements_of t)) (Some n)
last_of t e n h r f =
    let xs = elements_of t in
    let parts = list_elements t h r in
    let inside : n < length xs = omega (arith, f.within) in
    (inside, ap (best_of Greatest) (filter_front (is_wanted Greatest e) xs t (suc n) f.within f.before f.behind) ∙ greatest_is_last xs n t parts.1 parts.0 (omega (arith, f.within)))

pub greatest_place : (t : Tree) (e : Option Tree) (n : ℕ) (o : Option ℕ) → IsList t → IsRegular t → IsFront (is_wanted Greatest e) t n → o ≡ before n → IsPlaceOfBest Greatest t (filter (is_wanted Greatest e) (elements_of t)) o
greatest_place t e n o h r f is = subst (IsPlaceOfBest Greatest t (filter (is_wanted Greatest e) (elements_of t))) (sym is) (by_count n f)
  where
    by_count : (n : ℕ) → IsFront (is_wanted Greatest e) t n → IsPlaceOfBest Greatest t (filter (is_wanted Greatest e) (elements_of t)) (before n)
    by_count zero f = ap (best_of Greatest) (filter_front (is_wanted Greatest e) (elements_of t) t 0 f.within f.before f.behind)
    by_count (suc n) f = last_of t e n h r f

-- where there is no e, all are below
pub all_below : (t : Tree) (n : ℕ) → n ≡ length (elements_of t) → (o : Option Tree) → o ≡ None → IsFront (is_wanted Greatest o) t n
all_below t n h o e = record {
  within = omega arith;
  before = λ k l. ap (λ o. is_wanted Greatest o (element_at t k)) e;
  behind = λ k l m. absurd (omega arith);
}
