-- The row of a name, by halves in a table in order.
use Rattle.std.proofs.Common.{◌≡◌, ℕ, zero, suc, ◌+◌, ◌<◌, ◌≤◌, List, [], ◌∷◌, length, get_or, refl, sym, ap, ◌∙◌, arith, Bool, true, false, cond, ◌&&◌, None, Some, nat_eq, inl, inr}
use Rattle.std.specs.Option.{option_map}
use Rattle.std.specs.List.{find}
use Rattle.std.specs.declared.cmp.Ordering.{Ordering}
use Rattle.std.specs.declared.cmp.Ordering.TheVariants.{Less, Equal, Greater}
use Rattle.std.specs.Ordering.{nat_cmp, ordering_then, ordering_reverse, is_eq}
use Rattle.std.specs.Cmp.{IsTotalOrder, nat_cmp_total, then_total, on_total}
use Rattle.std.specs.Cmp.Lexicographic.{nat_list_cmp_total}
use Rattle.std.proofs.lemmas.Bool.{cases_lt, and_parts}
use Rattle.std.proofs.lemmas.List.{get_or_default}
use Rattle.std.proofs.lemmas.Bool.Decides.{nat_tests}
use Rattle.std.proofs.lemmas.Map.Text.{is_eq-slice_cmp}
use Rattle.abc_num.specs.Text.{text_cmp, text_eq}
use Rattle.abc_predef.specs.declared.table.Row.{Row}
use Rattle.abc_predef.proofs.Halves.{is_less}
use Rattle.abc_predef.specs.Order.{places_of, name_of, Key, key_of, key_order, are_rising, is_named, named}

key_total : IsTotalOrder key_order
key_total = then_total (on_total (λ (k : Key). k.0) nat_list_cmp_total) (on_total (λ (k : Key). k.1) nat_cmp_total)

then_equal : (o p : Ordering) → is_eq (ordering_then o p) ≡ (is_eq o && is_eq p)
then_equal Less p = refl
then_equal Equal p = refl
then_equal Greater p = refl

equal_numbers : (m n : ℕ) → is_eq (nat_cmp m n) ≡ nat_eq m n
equal_numbers m n = grind (arith, nat_tests)

-- a row has the key that is equal in the order
named_is : (k : Key) (r : Row) → is_eq (key_order (key_of r) k) ≡ is_named k r
named_is k r =
    then_equal (text_cmp (name_of r) k.0) (nat_cmp (places_of r.operands) k.1)
    ∙ ap (λ b. b && is_eq (nat_cmp (places_of r.operands) k.1)) (is_eq-slice_cmp (name_of r) k.0)
    ∙ ap (λ b. text_eq (name_of r) k.0 && b) (equal_numbers (places_of r.operands) k.1)

is_named_by : (k : Key) (r : Row) → key_order (key_of r) k ≡ Equal → is_named k r ≡ true
is_named_by k r e = sym (named_is k r) ∙ ap is_eq e

not_less : (k : Key) (r : Row) → key_order (key_of r) k ≡ Less → is_named k r ≡ false
not_less k r e = sym (named_is k r) ∙ ap is_eq e

not_greater : (k : Key) (r : Row) → key_order (key_of r) k ≡ Greater → is_named k r ≡ false
not_greater k r e = sym (named_is k r) ∙ ap is_eq e

-- the first is less than each other
first_less : (r : Row) (rows : List Row) (k : ℕ) (d : Row) → are_rising (r ∷ rows) ≡ true → k < length rows → key_order (key_of r) (key_of (get_or rows k d)) ≡ Less
first_less r [] k d h l = absurd (omega arith)
first_less r (s ∷ rows) zero d h l = is_less (key_order (key_of r) (key_of s)) (and_parts _ _ h).0
first_less r (s ∷ rows) (suc k) d h l =
    key_total.trans (key_of r) (key_of s) (key_of (get_or rows k d)) (is_less (key_order (key_of r) (key_of s)) (and_parts _ _ h).0)
    (first_less s rows k d (and_parts _ _ h).1 (omega arith))

tail_rising : (r : Row) (rows : List Row) → are_rising (r ∷ rows) ≡ true → are_rising rows ≡ true
tail_rising r [] h = refl
tail_rising r (s ∷ rows) h = (and_parts _ _ h).1

rising_less : (rows : List Row) (j k : ℕ) (d : Row) → are_rising rows ≡ true → j < k → k < length rows → key_order (key_of (get_or rows j d)) (key_of (get_or rows k d)) ≡ Less
rising_less [] j k d h l m = absurd (omega arith)
rising_less (r ∷ rows) j zero d h l m = absurd (omega arith)
rising_less (r ∷ rows) zero (suc k) d h l m = first_less r rows k d h (omega arith)
rising_less (r ∷ rows) (suc j) (suc k) d h l m = rising_less rows j k d (tail_rising r rows h) (omega arith) (omega arith)

-- the first row that passes
find_at : (p : Row → Bool) (rows : List Row) (n : ℕ) (r : Row) → n < length rows → ((d : Row) → get_or rows n d ≡ r) → p r ≡ true → ((i : ℕ) (d : Row) → i < n → p (get_or rows i d) ≡ false) → find p rows ≡ Some r
find_at p [] n r h is t f = absurd (omega arith)
find_at p (x ∷ rows) zero r h is t f = ap (λ b. cond b (Some x) (find p rows)) (ap p (is r) ∙ t) ∙ ap Some (is r)
find_at p (x ∷ rows) (suc n) r h is t f =
    ap (λ b. cond b (Some x) (find p rows)) (f 0 r (omega arith)) ∙ find_at p rows n r (omega arith) is t (λ i d l. f (suc i) d (omega arith))

find_none : (p : Row → Bool) (rows : List Row) → ((i : ℕ) (d : Row) → i < length rows → p (get_or rows i d) ≡ false) → find p rows ≡ None
find_none p [] f = refl
find_none p (x ∷ rows) f =
    ap (λ b. cond b (Some x) (find p rows)) (f 0 x (omega arith)) ∙ find_none p rows (λ i d l. f (suc i) d (omega arith))

-- what stands below low is less, and what stands from high on is greater
pub record Between (k : Key) (rows : List Row) (low high : ℕ) : Type 0 where
  pub met : low ≤ high
  pub within : high ≤ length rows
  pub before : (i : ℕ) (d : Row) → i < low → key_order (key_of (get_or rows i d)) k ≡ Less
  pub behind : (i : ℕ) (d : Row) → high ≤ i → i < length rows → key_order (key_of (get_or rows i d)) k ≡ Greater

pub between_all : (k : Key) (rows : List Row) (n : ℕ) → n ≡ length rows → Between k rows 0 n
between_all k rows n h = record { met = omega arith; within = omega arith; before = λ i d l. absurd (omega arith); behind = λ i d l m. absurd (omega arith) }

above : (j k l : Key) → key_order j k ≡ Less → key_order j l ≡ Greater → key_order k l ≡ Greater
above j k l e f =
    let back : key_order l j ≡ Less = key_total.antisymm l j ∙ ap ordering_reverse f in
    key_total.antisymm k l ∙ ap ordering_reverse (key_total.trans l j k back e)

module _ (k : Key) (rows : List Row) (low high m : ℕ) (rising : are_rising rows ≡ true) (b : Between k rows low high) (p : low ≤ m) (q : m < high) where
  inside : m < length rows
  inside = omega (arith, b.within)

  before_middle : (d : Row) (i : ℕ) → i < m + 1 → key_order (key_of (get_or rows m d)) k ≡ Less → key_order (key_of (get_or rows i d)) k ≡ Less
  before_middle d i h e = elim (cases_lt i m) [
    | inl l ↦ key_total.trans (key_of (get_or rows i d)) (key_of (get_or rows m d)) k (rising_less rows i m d rising l inside) e
    | inr l ↦ (let s : i ≡ m = omega arith in ap (λ j. key_order (key_of (get_or rows j d)) k) s ∙ e)
  ]

  behind_middle : (d : Row) (i : ℕ) → m ≤ i → i < length rows → key_order (key_of (get_or rows m d)) k ≡ Greater → key_order (key_of (get_or rows i d)) k ≡ Greater
  behind_middle d i h l e = elim (cases_lt m i) [
    | inl g ↦ above (key_of (get_or rows m d)) (key_of (get_or rows i d)) k (rising_less rows m i d rising g l) e
    | inr g ↦ (let s : i ≡ m = omega arith in ap (λ j. key_order (key_of (get_or rows j d)) k) s ∙ e)
  ]

  move_low : ((d : Row) → key_order (key_of (get_or rows m d)) k ≡ Less) → Between k rows (m + 1) high
  move_low e = record { met = omega arith; within = b.within; before = λ i d h. before_middle d i h (e d); behind = b.behind }

  move_high : ((d : Row) → key_order (key_of (get_or rows m d)) k ≡ Greater) → Between k rows low m
  move_high e = record { met = p; within = omega (arith, inside); before = b.before; behind = λ i d h l. behind_middle d i h l (e d) }

  less_than_found : (r : Row) → ((d : Row) → get_or rows m d ≡ r) → key_order (key_of r) k ≡ Equal → (i : ℕ) (d : Row) → i < m → key_order (key_of (get_or rows i d)) k ≡ Less
  less_than_found r is e i d h =
      let j = key_of (get_or rows i d) in
      let l : key_order j (key_of r) ≡ Less = ap (λ x. key_order j (key_of x)) (sym (is d)) ∙ rising_less rows i m d rising h inside in
      key_total.antisymm j k ∙ ap ordering_reverse (sym (key_total.congr (key_of r) k j e) ∙ key_total.antisymm (key_of r) j ∙ ap ordering_reverse l)

  found : (r : Row) → ((d : Row) → get_or rows m d ≡ r) → key_order (key_of r) k ≡ Equal → Some r.op ≡ named rows k
  found r is e =
      ap (option_map (λ r. r.op)) (sym (find_at (is_named k) rows m r inside is (is_named_by k r e) (λ i d h. not_less k (get_or rows i d) (less_than_found r is e i d h))))

module _ (k : Key) (rows : List Row) (low high m : ℕ) (rising : are_rising rows ≡ true) (b : Between k rows low high) (p : low ≤ m) (q : m < high) (e : Row) where
  there : m < length rows
  there = omega (arith, b.within)

  pub low_moves : key_order (key_of (get_or rows m e)) k ≡ Less → Between k rows (m + 1) high
  low_moves o = move_low k rows low high m rising b p q (λ d. ap (λ r. key_order (key_of r) k) (get_or_default rows m d e there) ∙ o)

  pub high_moves : key_order (key_of (get_or rows m e)) k ≡ Greater → Between k rows low m
  high_moves o = move_high k rows low high m rising b p q (λ d. ap (λ r. key_order (key_of r) k) (get_or_default rows m d e there) ∙ o)

  pub is_found : key_order (key_of (get_or rows m e)) k ≡ Equal → Some (get_or rows m e).op ≡ named rows k
  is_found o = found k rows low high m rising b p q (get_or rows m e) (λ d. get_or_default rows m d e there) o

pub not_found : (k : Key) (rows : List Row) (low high : ℕ) → Between k rows low high → high ≤ low → None ≡ named rows k
not_found k rows low high b h = ap (option_map (λ r. r.op)) (sym (find_none (is_named k) rows (λ i d l. elim (cases_lt i low) [
  | inl below ↦ not_less k (get_or rows i d) (b.before i d below)
  | inr above ↦ not_greater k (get_or rows i d) (b.behind i d (omega (arith, b.met)) l)
])))
