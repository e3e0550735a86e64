-- Loops over the parts of a value.
use Rattle.std.proofs.Common.{◌≡◌, ◌∙◌, ℕ, zero, suc, ◌+◌, ◌<◌, ◌≤◌, List, [], ◌∷◌, length, take, map, ap, sym, subst, refl, arith}
use Rattle.std.specs.Prelude.{Option, None, Some, slice_get, slice_index_or, sum, Bool, true, false, not}
use Rattle.std.specs.Option.{is_some, option_map}
use Rattle.std.specs.List.{sum_by}
use Rattle.std.proofs.lemmas.List.Sums.{sum_by-cons, sum-map}
use Rattle.abc_terms.specs.Sizes.{size}
use Rattle.std.proofs.lemmas.List.{take_all}
use Rattle.abc_num.specs.declared.types.Ground.{Ground}
use Rattle.abc_value.specs.Tree.{Tree}
use Rattle.abc_value.specs.Types.{has, each_listed, all_listed}

-- all parts before the i-th have the type, and the i-th
pub all_next : (xs : List Tree) (i : ℕ) (x : Tree) (g : Ground) → Some x ≡ slice_get xs i → all_listed (take i xs) g → has x g → all_listed (take (i + 1) xs) g
all_next [] i x g at all h = absurd (let e : Some x ≡ None = at in cc)
all_next (y ∷ xs) zero x g at all h = (subst (λ z. has z g) (let e : Some x ≡ Some y = at in cc) h, tt)
all_next (y ∷ xs) (suc i) x g at all h =
    let e : suc i + 1 ≡ suc (i + 1) = omega arith in
    subst (λ n. all_listed (take n (y ∷ xs)) g) (sym e) (all.0, all_next xs i x g at all.1 h)

pub all_at : (xs : List Tree) (i : ℕ) (x : Tree) (g : Ground) → Some x ≡ slice_get xs i → all_listed xs g → has x g
all_at [] i x g at all = absurd (let e : Some x ≡ None = at in cc)
all_at (y ∷ xs) zero x g at all = subst (λ z. has z g) (let e : Some y ≡ Some x = sym at in cc) all.0
all_at (y ∷ xs) (suc i) x g at all = all_at xs i x g at all.1

pub all_ended : (xs : List Tree) (i : ℕ) (g : Ground) → None ≡ slice_get xs i → all_listed (take i xs) g → all_listed xs g
all_ended [] i g at all = tt
all_ended (y ∷ xs) zero g at all = absurd (let e : None ≡ Some y = at in cc)
all_ended (y ∷ xs) (suc i) g at all = (all.0, all_ended xs i g at all.1)

pub all_done : (xs : List Tree) (i : ℕ) (g : Ground) → length xs ≤ i → all_listed (take i xs) g → all_listed xs g
all_done xs i g le all = subst (λ ys. all_listed ys g) (take_all i xs le) all

-- the same of fields and their types
pub each_next : (xs : List Tree) (gs : List Ground) (i : ℕ) (x : Tree) (g : Ground) → Some x ≡ slice_get xs i → Some g ≡ slice_get gs i → each_listed (take i xs) (take i gs) → has x g → each_listed (take (i + 1) xs) (take (i + 1) gs)
each_next [] gs i x g at of all h = absurd (let e : Some x ≡ None = at in cc)
each_next (y ∷ xs) [] i x g at of all h = absurd (let e : Some g ≡ None = of in cc)
each_next (y ∷ xs) (k ∷ gs) zero x g at of all h = (subst (λ z. has z k) (let e : Some x ≡ Some y = at in cc) (subst (λ z. has x z) (let e : Some g ≡ Some k = of in cc) h), tt)
each_next (y ∷ xs) (k ∷ gs) (suc i) x g at of all h =
    let e : suc i + 1 ≡ suc (i + 1) = omega arith in
    subst (λ n. each_listed (take n (y ∷ xs)) (take n (k ∷ gs))) (sym e) (all.0, each_next xs gs i x g at of all.1 h)

pub each_at : (xs : List Tree) (gs : List Ground) (i : ℕ) (x : Tree) (g : Ground) → Some x ≡ slice_get xs i → Some g ≡ slice_get gs i → each_listed xs gs → has x g
each_at [] gs i x g at of all = absurd (let e : Some x ≡ None = at in cc)
each_at (y ∷ xs) [] i x g at of all = absurd all
each_at (y ∷ xs) (k ∷ gs) zero x g at of all = subst (λ z. has z g) (let e : Some y ≡ Some x = sym at in cc) (subst (λ z. has y z) (let e : Some k ≡ Some g = sym of in cc) all.0)
each_at (y ∷ xs) (k ∷ gs) (suc i) x g at of all = each_at xs gs i x g at of all.1

-- there are as many
pub each_none : (xs : List Tree) (gs : List Ground) (i : ℕ) → None ≡ slice_get xs i → i < length gs → each_listed xs gs → ⊥
each_none [] [] i at lt all = absurd (omega (arith, lt))
each_none [] (g ∷ gs) i at lt all = all
each_none (y ∷ xs) [] i at lt all = all
each_none (y ∷ xs) (g ∷ gs) zero at lt all = let e : None ≡ Some y = at in absurd (cc)
each_none (y ∷ xs) (g ∷ gs) (suc i) at lt all = each_none xs gs i at (omega (arith, lt)) all.1

pub each_ended : (xs : List Tree) (gs : List Ground) (i : ℕ) → length gs ≤ i → None ≡ slice_get xs (length gs) → each_listed (take i xs) (take i gs) → each_listed xs gs
each_ended [] [] i le at all = tt
each_ended [] (g ∷ gs) zero le at all = absurd (omega (arith, le))
each_ended [] (g ∷ gs) (suc i) le at all = all
each_ended (y ∷ xs) [] i le at all = absurd (let e : None ≡ Some y = at in cc)
each_ended (y ∷ xs) (g ∷ gs) zero le at all = absurd (omega (arith, le))
each_ended (y ∷ xs) (g ∷ gs) (suc i) le at all = (all.0, each_ended xs gs i (omega (arith, le)) at all.1)

pub each_past : (xs : List Tree) (gs : List Ground) → each_listed xs gs → slice_get xs (length gs) ≡ None
each_past [] [] all = refl
each_past [] (g ∷ gs) all = absurd all
each_past (y ∷ xs) [] all = absurd all
each_past (y ∷ xs) (g ∷ gs) all = each_past xs gs all.1

-- whether there is none
pub none_where : {X Y : Type 0} (f : X → Y) (r : Option X) (b : Bool) (s : Option Y) → is_some r ≡ not b → option_map f r ≡ s → (b ≡ true → None ≡ s) × (s ≡ None → b ≡ true)
none_where f None true s e m = (λ h. m, λ h. refl)
none_where f None false s e m = absurd (let g : false ≡ true = e in cc)
none_where f (Some x) true s e m = absurd (let g : true ≡ false = e in cc)
none_where f (Some x) false s e m = (λ h. absurd (cc), λ h. absurd (let g : Some (f x) ≡ None = m ∙ h in cc))

below_sum : (gs : List Ground) (i : ℕ) (g : Ground) → i < length gs → g ≡ slice_index_or gs i g → size g ≤ sum_by size gs
below_sum [] i g lt is = absurd (omega (arith, lt))
below_sum (h ∷ gs) zero g lt is =
    let e : size g ≡ size h = ap size is in
    let all : sum_by size (h ∷ gs) ≡ size h + sum_by size gs = sum_by-cons size h gs in
    omega (arith, e, all)
below_sum (h ∷ gs) (suc i) g lt is =
    let le : size g ≤ sum_by size gs = below_sum gs i g (omega (arith, lt)) is in
    let all : sum_by size (h ∷ gs) ≡ size h + sum_by size gs = sum_by-cons size h gs in
    omega (arith, le, all)

pub size_below : (gs : List Ground) (i : ℕ) (g : Ground) → i < length gs → g ≡ slice_index_or gs i g → size g ≤ sum (map size gs)
size_below gs i g lt is = let le : size g ≤ sum_by size gs = below_sum gs i g lt is in omega (arith, le, sum-map size gs)
