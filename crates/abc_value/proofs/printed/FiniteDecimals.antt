-- Which numbers have finitely many decimals, and what these spell.
use Rattle.std.proofs.Common.{◌≡◌, ℕ, zero, suc, ◌+◌, ◌*◌, ◌/◌, ◌%◌, ◌^◌, ◌<◌, ◌≤◌, Bool, true, false, List, [], ◌∷◌, ◌++◌, length, Some, None, refl, sym, ap, ◌∙◌, subst, arith, inl, inr, length-append}
use Rattle.std.specs.Prelude.{All, unsigned_abs, decimal}
use Rattle.std.specs.Int.{IsGcd, ◌∣◌}
use Rattle.std.proofs.lemmas.Bool.{cases_lt}
use Rattle.std.proofs.lemmas.Bool.Decides.{nat_tests}
use Rattle.std.proofs.lemmas.List.{append_assoc}
use Rattle.std.proofs.lemmas.List.Elements.{All-nil, All-cons, All-append}
use Rattle.std.proofs.lemmas.Nat.Gcd.{IsGcd-from_zero, IsGcd-from_mod, IsGcd-swap, mod-eq-zero_of_dvd, dvd_of_mod-eq-zero, le_of_dvd, dvd_trans}
use Rattle.std.proofs.lemmas.Fmt.{decimal_by_steps_wide}
use Rattle.std.proofs.Math.Nat.{div-add-mod, mul-add-div, mod-lt, mod-eq_of_lt, mul-add-mod_self_left, pow-suc, pow-zero, pow-le-pow_right, mul-le-mul_left, div-mul_cancel, div-le_self, dvd-mul_left, pos_of_dvd_of_pos}
use Rattle.abc_num.specs.Number.{Fraction, IsNumber}
use Rattle.abc_num.specs.Literal.{IsDigit, digits_value, literal_numerator, behind, point}
use Rattle.abc_num.proofs.Decimal.{digit-below}
use Rattle.abc_num.proofs.Digits.{digits_value-append, one_digit}
use Rattle.abc_num.proofs.Divisors.{gauss, step_down, step_up, step_left}
use Rattle.abc_num.proofs.LowestTerms.{bounds, number_lowest}
use Rattle.abc_num.proofs.Spelling.{in_front-digits, behind-digits, in_front-point, behind-point}
use Rattle.abc_value.specs.declared.numeral.TheConstants.{MOST_DECIMALS}
use Rattle.abc_value.specs.Printed.{first_from, ends_after, places, decimals, by_places}
use Rattle.abc_value.specs.PrintedLaws.{SpellsSize, DecimalsAreExact, DecimalsAreFewest, QuotientsHaveNoDecimals}

has_gcd : (n a b : ℕ) → b ≤ n → (g : ℕ) × IsGcd a b g
has_gcd n a zero h = (a, IsGcd-from_zero a 0 refl)
has_gcd zero a (suc b) h = absurd (omega arith)
has_gcd (suc n) a (suc b) h =
    let m : a % suc b < suc b = mod-lt a (omega arith) in
    let p = has_gcd n (suc b) (a % suc b) (omega arith) in
    (p.0, IsGcd-from_mod a (suc b) p.0 p.1)

-- a power of ten that q divides and whose exponent is not greater than the count of the factors of q
abbrev Ends : ℕ → Type 0
Ends q = (i : ℕ) × (q ∣ (10 ^ i)) × (2 ^ i ≤ q)

-- the quotient by a common factor of ten ends, so q does
up_once : (q g : ℕ) → 0 < q → IsGcd q 10 g → Ends (q / g) → Ends q
up_once q g h d e =
    let back = div-mul_cancel g d.0 in
    let positive = pos_of_dvd_of_pos d.0 h in
    elim (cases_lt g 2) [
      | inl one ↦ (
          let unit : g ≡ 1 = omega arith in
          let same : q / g ≡ q = omega (arith, back, ap (λ z. q / g * z) unit) in
          (e.0, subst (λ z. z ∣ (10 ^ e.0)) same e.1, subst (λ z. 2 ^ e.0 ≤ z) same e.2)
          )
      | inr two ↦ (
          let up : q ∣ (10 ^ e.0 * 10) = step_up q g e.0 h d e.1 in
          let more : 10 ^ e.0 * 10 ≡ 10 ^ suc e.0 = omega (arith, pow-suc 10 e.0) in
          let wide = mul-le-mul_left (q / g) two in
          (suc e.0, subst (λ z. q ∣ z) more up, omega (arith, e.2, pow-suc 2 e.0, wide, back))
          )
    ]

-- what divides some power of ten divides one that is small enough
pub ends_early : (j q : ℕ) → 0 < q → q ∣ (10 ^ j) → Ends q
ends_early zero q h d = (0, d, omega (arith, pow-zero 2))
ends_early (suc j) q h d =
    let g = has_gcd 10 q 10 (omega arith) in
    let split : 10 ^ suc j ≡ 10 ^ j * 10 = omega (arith, pow-suc 10 j) in
    up_once q g.0 h g.1 (ends_early j (q / g.0) (step_left q g.0 0 h g.1) (step_down q g.0 j h g.1 (subst (λ z. q ∣ z) split d)))

pub ends_within : (j q : ℕ) → 0 < q → q < 2 ^ 63 → q ∣ (10 ^ j) → (i : ℕ) × (q ∣ (10 ^ i)) × (i ≤ MOST_DECIMALS)
ends_within j q h small d =
    let e = ends_early j q h d in
    elim (cases_lt e.0 63) [
      | inl l ↦ (e.0, e.1, omega arith)
      | inr l ↦ (let p = pow-le-pow_right {n = 2} (omega arith) l in absurd (omega (arith, p, e.2)))
    ]

ends_test : (q k : ℕ) → q ∣ (10 ^ k) → ends_after q k ≡ true
ends_test q k d = let z = mod-eq-zero_of_dvd q d in grind (arith, nat_tests)

test_ends : (q k : ℕ) → ends_after q k ≡ true → q ∣ (10 ^ k)
test_ends q k t = dvd_of_mod-eq-zero q (let z : 10 ^ k % q ≡ 0 = grind (arith, nat_tests) in z)

-- what the search finds passes, and nothing before it does
pub record IsFirst (passes : ℕ → Bool) (from k : ℕ) : Type 0 where
  pub passing : passes k ≡ true
  pub least : (j : ℕ) → from ≤ j → passes j ≡ true → k ≤ j

by_test : (passes : ℕ → Bool) (from n k : ℕ) (b : Bool) → passes from ≡ b → (b ≡ false → first_from passes (suc from) n ≡ Some k → IsFirst passes (suc from) k) → first_from passes from (suc n) ≡ Some k → IsFirst passes from k
by_test passes from n k true t later e =
    let same : Some from ≡ Some k = rw t at e in
    let is : from ≡ k = cc in
    record { passing = subst (λ z. passes z ≡ true) is t; least = λ j h p. omega arith }
by_test passes from n k false t later e =
    let rest : first_from passes (suc from) n ≡ Some k = rw t at e in
    let f = later refl rest in record {
      passing = f.passing;
      least = λ j h p. elim (cases_lt from j) [
        | inl l ↦ f.least j (omega arith) p
        | inr l ↦ absurd (let same : j ≡ from = omega arith in let bad : true ≡ false = sym p ∙ ap passes same ∙ t in cc)
      ];
    }

pub found_first : (passes : ℕ → Bool) (from n k : ℕ) → first_from passes from n ≡ Some k → IsFirst passes from k
found_first passes from zero k e = cc
found_first passes from (suc n) k e = by_test passes from n k (passes from) refl (λ t rest. found_first passes (suc from) n k rest) e

by_no_test : (passes : ℕ → Bool) (from n : ℕ) (b : Bool) → passes from ≡ b → ((j : ℕ) → suc from ≤ j → j < suc from + n → first_from passes (suc from) n ≡ None → passes j ≡ true → ⊥) → first_from passes from (suc n) ≡ None → (j : ℕ) → from ≤ j → j < from + suc n → passes j ≡ true → ⊥
by_no_test passes from n true t later e j h l p = let bad : Some from ≡ None = rw t at e in cc
by_no_test passes from n false t later e j h l p =
    let rest : first_from passes (suc from) n ≡ None = rw t at e in
    elim (cases_lt from j) [
      | inl m ↦ later j (omega arith) (omega arith) rest p
      | inr m ↦ (let same : j ≡ from = omega arith in let bad : true ≡ false = sym p ∙ ap passes same ∙ t in cc)
    ]

pub found_none : (passes : ℕ → Bool) (from n : ℕ) → first_from passes from n ≡ None → (j : ℕ) → from ≤ j → j < from + n → passes j ≡ true → ⊥
found_none passes from zero e j h l p = omega arith
found_none passes from (suc n) e j h l p = by_no_test passes from n (passes from) refl (λ i a b rest q. found_none passes (suc from) n rest i a b q) e j h l p

pub places_first : (q k : ℕ) → places q ≡ Some k → IsFirst (ends_after q) 0 k
unfolding places
places_first q k e = found_first (ends_after q) 0 (MOST_DECIMALS + 1) k e

pub places_none : (q : ℕ) → places q ≡ None → (j : ℕ) → j ≤ MOST_DECIMALS → q ∣ (10 ^ j) → ⊥
unfolding places
places_none q e j h d = found_none (ends_after q) 0 (MOST_DECIMALS + 1) e j (omega arith) (omega arith) (ends_test q j d)

-- a denominator of a number that some token spells divides the power of ten of its decimals
spelled_ends : (b : List ℕ) (f : Fraction) → IsNumber f → SpellsSize b f → f.denominator ∣ (10 ^ length (behind b))
spelled_ends b f n s =
    let low = number_lowest f n in
    let wide : f.denominator ∣ (unsigned_abs f.numerator * 10 ^ length (behind b)) = subst (λ z. f.denominator ∣ z) s.1 (dvd-mul_left f.denominator (literal_numerator b)) in
    gauss f.denominator (unsigned_abs f.numerator) (10 ^ length (behind b)) (IsGcd-swap (unsigned_abs f.numerator) f.denominator 1 low.0) wide

pub decimals_are_fewest : DecimalsAreFewest
decimals_are_fewest f n k e b s =
    (places_first f.denominator k e).least (length (behind b)) (omega arith) (ends_test f.denominator (length (behind b)) (spelled_ends b f n s))

pub quotients_have_no_decimals : QuotientsHaveNoDecimals
quotients_have_no_decimals f n e b s =
    let w = ends_within (length (behind b)) f.denominator (number_lowest f n).1 (bounds f n).1 (spelled_ends b f n s) in
    places_none f.denominator e w.0 w.2 w.1

one_digit_only : (c : ℕ) → IsDigit c → All IsDigit (c ∷ [])
one_digit_only c h = All-cons IsDigit c [] h (All-nil IsDigit)

-- what holds of the digits of n
record AreDigitsOf (n : ℕ) (ds : List ℕ) : Type 0 where
  digits : All IsDigit ds
  value : digits_value ds ≡ n
  some : 0 < length ds

last_digit : (n d : ℕ) (ds : List ℕ) → d < 10 → AreDigitsOf n ds → AreDigitsOf (10 * n + d) (ds ++ (48 + d) ∷ [])
last_digit n d ds h a =
    let ten : 10 ^ 1 ≡ 10 = refl in record {
      digits = All-append IsDigit ds ((48 + d) ∷ []) a.digits (one_digit_only (48 + d) (omega arith, omega arith));
      value = omega (arith, digits_value-append ds ((48 + d) ∷ []), one_digit (48 + d), ap (λ z. digits_value ds * z) ten, a.value);
      some = omega (arith, length-append ds ((48 + d) ∷ []));
    }

decimal_digits : (n : ℕ) → n < 10 ^ 64 → AreDigitsOf n (decimal n)
decimal_digits = decimal_by_steps_wide AreDigitsOf
    (λ n h. record { digits = one_digit_only (48 + n) (omega arith, omega arith); value = omega (arith, one_digit (48 + n)); some = omega arith })
    (λ n ds h a.
    let whole : 10 * (n / 10) + n % 10 ≡ n = omega (arith, div-add-mod n 10) in
    let small : n % 10 < 10 = mod-lt n (omega arith) in
    subst (λ z. AreDigitsOf z (ds ++ (48 + n % 10) ∷ [])) whole (last_digit (n / 10) (n % 10) ds small a))

decimals_count : (top b k : ℕ) → length (decimals top b k) ≡ k
decimals_count top b zero = refl
decimals_count top b (suc k) = omega (arith, length-append (decimals top b k) ((48 + top * 10 ^ suc k / b % 10) ∷ []), decimals_count top b k)

decimals_digits : (top b k : ℕ) → All IsDigit (decimals top b k)
decimals_digits top b zero i d l = absurd (omega arith)
decimals_digits top b (suc k) i d l =
    let small : top * 10 ^ suc k / b % 10 < 10 = mod-lt (top * 10 ^ suc k / b) (omega arith) in
    All-append IsDigit (decimals top b k) ((48 + top * 10 ^ suc k / b % 10) ∷ []) (λ j e m. decimals_digits top b k j e m) (one_digit_only (48 + top * 10 ^ suc k / b % 10) (omega arith, omega arith)) i d l

-- ten times a whole part and the next digit are the whole part of ten times as much
next_digit : (a b : ℕ) → 0 < b → 10 * (a / b) + 10 * a / b % 10 ≡ 10 * a / b
next_digit a b h =
    let whole : 10 * a ≡ b * (10 * (a / b)) + 10 * (a % b) = omega (arith, div-add-mod a b) in
    let parts : 10 * a / b ≡ 10 * (a / b) + (10 * (a % b)) / b = ap (λ z. z / b) whole ∙ mul-add-div h (10 * (a / b)) (10 * (a % b)) in
    let small : (10 * (a % b)) / b < 10 = omega (arith, digit-below b (a % b) (mod-lt a h)) in
    let last : 10 * a / b % 10 ≡ (10 * (a % b)) / b = ap (λ z. z % 10) parts ∙ mul-add-mod_self_left 10 (a / b) ((10 * (a % b)) / b) ∙ mod-eq_of_lt small in
    omega (arith, parts, last)

-- the whole part and the first decimals are the whole part of ten to their count times as much
decimals_value : (top b k : ℕ) → 0 < b → (top / b) * 10 ^ k + digits_value (decimals top b k) ≡ top * 10 ^ k / b
decimals_value top b zero h =
    let one : top * 10 ^ 0 ≡ top = omega (arith, ap (λ z. top * z) (pow-zero 10)) in
    omega (arith, ap (λ z. (top / b) * z) (pow-zero 10), ap (λ z. z / b) one)
decimals_value top b (suc k) h =
    let d = top * 10 ^ suc k / b % 10 in
    let ten : 10 ^ 1 ≡ 10 = refl in
    let more : 10 * (top * 10 ^ k) ≡ top * 10 ^ suc k = omega (arith, ap (λ z. top * z) (pow-suc 10 k)) in
    let next : 10 * (top * 10 ^ k / b) + d ≡ top * 10 ^ suc k / b = subst (λ z. 10 * (top * 10 ^ k / b) + z / b % 10 ≡ z / b) more (next_digit (top * 10 ^ k) b h) in
    omega (
      arith,
      next,
      decimals_value top b k h,
      digits_value-append (decimals top b k) ((48 + d) ∷ []),
      one_digit (48 + d),
      ap (λ z. digits_value (decimals top b k) * z) ten,
      ap (λ z. (top / b) * z) (pow-suc 10 k),
    )

whole_spells : (f : Fraction) → IsNumber f → places f.denominator ≡ Some zero → SpellsSize (decimal (unsigned_abs f.numerator)) f
whole_spells f n e =
    let top = unsigned_abs f.numerator in
    let small : top < 10 ^ 64 = omega (arith, (bounds f n).0) in
    let d = decimal_digits top small in
    let ends = test_ends f.denominator 0 (places_first f.denominator zero e).passing in
    let one : f.denominator ≡ 1 = omega (arith, (number_lowest f n).1, le_of_dvd (omega arith) (subst (λ z. f.denominator ∣ z) (pow-zero 10) ends)) in
    let front = in_front-digits (decimal top) d.digits in
    let rest = behind-digits (decimal top) d.digits in (
      inl (λ none. let bad = ap length none in omega (arith, d.some, bad), d.digits),
      rw (front, rest) (omega (arith, d.value, one, ap (λ z. digits_value (decimal top) * z) one)),
    )

-- digits in front of a point and decimals behind it
pointed_spells : (f : Fraction) → IsNumber f → (k : ℕ) → places f.denominator ≡ Some (suc k) → SpellsSize (by_places (unsigned_abs f.numerator) f.denominator (Some (suc k))) f
pointed_spells f n k e =
    let top = unsigned_abs f.numerator in
    let q = f.denominator in
    let positive = (number_lowest f n).1 in
    let small : top / q < 10 ^ 64 = omega (arith, (bounds f n).0, div-le_self top q) in
    let w = decimal_digits (top / q) small in
    let ds = decimals top q (suc k) in
    let digits = decimals_digits top q (suc k) in
    let count = decimals_count top q (suc k) in
    let split : decimal (top / q) ++ (point ∷ []) ++ ds ≡ decimal (top / q) ++ (point ∷ ds) = append_assoc (decimal (top / q)) (point ∷ []) ds in
    let ends : q ∣ (10 ^ suc k) = test_ends q (suc k) (places_first q (suc k) e).passing in
    let whole : top * 10 ^ suc k / q * q ≡ top * 10 ^ suc k = div-mul_cancel q (dvd_trans q ends (dvd-mul_left (10 ^ suc k) top)) in
    let value = decimals_value top q (suc k) positive in
    let P : List ℕ → Type 0 = λ z. SpellsSize z f in
    subst P (sym split) (
      inr (decimal (top / q), ds, refl, w.digits, ((λ none. let bad = ap length none in omega (arith, count, bad)), digits)),
      rw (in_front-point (decimal (top / q)) ds w.digits, behind-point (decimal (top / q)) ds w.digits) (rw count (rw w.value (ap (λ z. z * q) value ∙ whole))),
    )

pub decimals_are_exact : DecimalsAreExact
decimals_are_exact f n zero e = whole_spells f n e
decimals_are_exact f n (suc k) e = pointed_spells f n k e
