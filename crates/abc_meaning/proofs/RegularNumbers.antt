-- The operations on numbers give numbers.
use Rattle.std.proofs.Common.{◌≡◌, ◌≢◌, ℕ, zero, suc, ◌+◌, ◌*◌, ◌/◌, ◌%◌, ◌^◌, ◌<◌, ◌≤◌, ℤ, pos, negsuc, neg_ℤ, unsigned_abs, Bool, true, false, if◌then◌else◌, Option, Some, None, Result, Ok, Err, refl, sym, ◌∙◌, ap, subst, arith, inl, inr}
use Rattle.std.specs.Prelude.{nat_eq}
use Rattle.std.specs.Int.{int_pow, int_signum}
use Rattle.std.proofs.lemmas.Bool.{cases_eq}
use lib.Signed.{lt_z}
use Rattle.std.proofs.lemmas.Bool.Decides.{nat_tests}
use Rattle.std.proofs.lemmas.Int.{ints}
use Rattle.std.proofs.Math.Nat.{div-le_self, mod-lt}
use Rattle.abc_num.specs.declared.number.NumFault.{NumFault}
use Rattle.abc_num.specs.declared.number.NumFault.TheVariants.{DivisionByZero}
use Rattle.abc_num.specs.Number.{Fraction, signed, whole_number, whole_of, IsNumber}
use Rattle.abc_num.specs.Ratio.{ratio, IsRatio}
use Rattle.abc_num.specs.Rounding.{floor_of, nearest_of, away_of}
use Rattle.abc_num.proofs.Computed.{ratio_has_value}
use Rattle.abc_num.proofs.Digits.{power-positive}
use Rattle.abc_num.proofs.LowestTerms.{whole_is_number, number_parts, number-from_parts, bounds}
use Rattle.abc_num.proofs.Nearest.{nearest-signed}
use Rattle.abc_num.proofs.Order.{denominator-positive}
use Rattle.abc_num.proofs.Powers.{int_pow-even, int_pow-odd}
use Rattle.abc_num.proofs.Ratios.{IsRatio-number, pos_ne, product_pos}
use Rattle.abc_num.proofs.Signs.{signed_size, factor_ne}
use Rattle.abc_print.proofs.OneValue.{signed_number}
use Rattle.abc_predef.specs.Numbers.{unless_zero, sum_of, difference_of, product_of, quotient_of, rest_of, whole_power, power_to, power_of, whole_rounding, rounding_to, rounding_of, negative_of, size_of, sign_of, floor_number, ceiling_number, nearest_number}

-- ---- what a ratio gives

pub ratio_number : (a b : ℤ) (n : Fraction) → b ≢ pos 0 → ratio a b ≡ Ok n → IsNumber n
ratio_number a b n h e = (IsRatio-number a b n (subst (IsRatio a b) e (ratio_has_value a b h))).0

common_ne : (x y : Fraction) → IsNumber x → IsNumber y → pos (x.denominator * y.denominator) ≢ pos 0
common_ne x y h k = pos_ne (x.denominator * y.denominator) (product_pos x.denominator y.denominator (denominator-positive x h) (denominator-positive y k))

pub sum_number : (x y n : Fraction) → IsNumber x → IsNumber y → sum_of x y ≡ Ok n → IsNumber n
sum_number x y n h k e = ratio_number _ _ n (common_ne x y h k) e

pub difference_number : (x y n : Fraction) → IsNumber x → IsNumber y → difference_of x y ≡ Ok n → IsNumber n
difference_number x y n h k e = ratio_number _ _ n (common_ne x y h k) e

pub product_number : (x y n : Fraction) → IsNumber x → IsNumber y → product_of x y ≡ Ok n → IsNumber n
product_number x y n h k e = ratio_number _ _ n (common_ne x y h k) e

-- where the divisor isn't 0
by_divisor : (z : ℤ) (answer : Result Fraction NumFault) (n : Fraction) → (z ≢ pos 0 → answer ≡ Ok n → IsNumber n) → unless_zero z answer ≡ Ok n → IsNumber n
by_divisor (pos zero) answer n h e = cc
by_divisor (pos (suc m)) answer n h e =
    let t : nat_eq (suc m) 0 ≡ false = grind (arith, nat_tests) in
    h (pos_ne (suc m) (omega arith)) (subst (λ b. (if b then Err DivisionByZero else answer) ≡ Ok n) t e)
by_divisor (negsuc m) answer n h e = h (λ k. absurd (omega (arith, ints, k))) e

pub quotient_number : (x y n : Fraction) → IsNumber x → quotient_of x y ≡ Ok n → IsNumber n
quotient_number x y n h e = by_divisor y.numerator _ n (λ ne is. ratio_number _ _ n (factor_ne y.numerator x.denominator ne (denominator-positive x h)) is) e

pub rest_number : (x y n : Fraction) → IsNumber x → IsNumber y → rest_of x y ≡ Ok n → IsNumber n
rest_number x y n h k e = by_divisor y.numerator _ n (λ _ is. ratio_number _ _ n (common_ne x y h k) is) e

power_ne : (a : ℤ) (n : ℕ) → a ≢ pos 0 → int_pow a n ≢ pos 0
power_ne (pos zero) n h = absurd (h refl)
power_ne (pos (suc a)) n h = pos_ne (suc a ^ n) (power-positive (suc a) n (omega arith))
power_ne (negsuc a) n h =
    let p = power-positive (suc a) n (omega arith) in
    elim (cases_eq (n % 2) 0) [
      | inl even ↦ λ e. pos_ne (suc a ^ n) p (sym (int_pow-even true (suc a) n even) ∙ e)
      | inr odd ↦ λ e. let f = sym (int_pow-odd true (suc a) n odd) ∙ e in absurd (omega (arith, ints, f))
    ]

whole_power_number : (x n : Fraction) (k : ℤ) → IsNumber x → whole_power x k ≡ Ok n → IsNumber n
whole_power_number x n (pos k) h e = ratio_number _ _ n (pos_ne (x.denominator ^ k) (power-positive x.denominator k (denominator-positive x h))) e
whole_power_number x n (negsuc k) h e = by_divisor x.numerator _ n (λ ne is. ratio_number _ _ n (power_ne x.numerator (suc k) ne) is) e

power_to_number : (x n : Fraction) (k : Option ℤ) → IsNumber x → power_to x k ≡ Ok n → IsNumber n
power_to_number x n None h e = cc
power_to_number x n (Some k) h e = whole_power_number x n k h e

pub power_number : (x y n : Fraction) → IsNumber x → power_of x y ≡ Ok n → IsNumber n
power_number x y n h e = power_to_number x n (whole_of y) h e

whole_rounding_number : (x n : Fraction) (k : ℤ) → whole_rounding x k ≡ Ok n → IsNumber n
whole_rounding_number x n (pos k) e = ratio_number _ _ n (pos_ne (10 ^ k) (power-positive 10 k (omega arith))) e
whole_rounding_number x n (negsuc k) e = ratio_number _ _ n (pos_ne 1 (omega arith)) e

rounding_to_number : (x n : Fraction) (k : Option ℤ) → rounding_to x k ≡ Ok n → IsNumber n
rounding_to_number x n None e = cc
rounding_to_number x n (Some k) e = whole_rounding_number x n k e

pub rounding_number : (k x n : Fraction) → rounding_of k x ≡ Ok n → IsNumber n
rounding_number k x n e = rounding_to_number x n (whole_of k) e

-- ---- results that there always are

pub whole_is : (p : ℤ) → unsigned_abs p < 2 ^ 127 → IsNumber (whole_number p)
whole_is p h = subst (λ q. IsNumber (whole_number q)) (sym (signed_size p)) (whole_is_number _ (unsigned_abs p) h)

pub small_is : (n : ℕ) → n < 2 ^ 127 → IsNumber (whole_number (pos n))
small_is n h = whole_is (pos n) h

pub negative_number : (x : Fraction) → IsNumber x → IsNumber (negative_of x)
negative_number x h = signed_number true x h

pub size_number : (x : Fraction) → IsNumber x → IsNumber (size_of x)
size_number x h = number-from_parts false (unsigned_abs x.numerator) x.denominator (number_parts x h)

pub sign_number : (x : Fraction) → IsNumber (sign_of x)
sign_number x = whole_is (int_signum x.numerator) (by x.numerator)
  where
    by : (p : ℤ) → unsigned_abs (int_signum p) < 2 ^ 127
    by (pos n) = omega arith
    by (negsuc n) = omega arith

floor_small : (p : ℤ) (q : ℕ) → unsigned_abs p < 2 ^ 127 → unsigned_abs (floor_of p q) < 2 ^ 127
floor_small (pos a) q h = let d = div-le_self a q in omega arith
floor_small (negsuc a) q h = let d = div-le_self a q in omega arith

pub floor_is : (x : Fraction) → IsNumber x → IsNumber (floor_number x)
floor_is x h = whole_is (floor_of x.numerator x.denominator) (floor_small x.numerator x.denominator (bounds x h).0)

negative_small : (p : ℤ) → unsigned_abs p < 2 ^ 127 → unsigned_abs (neg_ℤ p) < 2 ^ 127
negative_small (pos zero) h = h
negative_small (pos (suc n)) h = h
negative_small (negsuc n) h = h

pub ceiling_is : (x : Fraction) → IsNumber x → IsNumber (ceiling_number x)
ceiling_is x h =
    whole_is (neg_ℤ (floor_of (neg_ℤ x.numerator) x.denominator))
    (negative_small (floor_of (neg_ℤ x.numerator) x.denominator) (floor_small (neg_ℤ x.numerator) x.denominator (negative_small x.numerator (bounds x h).0)))

away_whole : (s : Bool) → away_of s 0 1 ≡ false
away_whole true = refl
away_whole false = refl

at_most_one : (u : Bool) → (if u then 1 else 0) ≤ 1
at_most_one true = omega arith
at_most_one false = omega arith

nearest_small : (s : Bool) (a b : ℕ) → 0 < b → a < 2 ^ 127 → (b ≢ 1 → a < 2 ^ 63) → a / b + (if away_of s (a % b) b then 1 else 0) < 2 ^ 127
nearest_small s a b h k wide = elim (cases_eq b 1) [
  | inl e ↦ (
      let rest : a % b ≡ 0 = (let m = mod-lt a h in omega arith) in
      let none : away_of s (a % b) b ≡ false = (λ i. away_of s (rest i) (e i)) ∙ away_whole s in
      let d = div-le_self a b in
      rw none (omega arith)
      )
  | inr n ↦ (
      let small = wide n in
      let d = div-le_self a b in
      let one = at_most_one (away_of s (a % b) b) in
      omega arith
      )
]

abs-of : (s : Bool) (x : ℕ) → unsigned_abs (signed s x) ≡ x
abs-of false x = refl
abs-of true zero = refl
abs-of true (suc x) = refl

pub nearest_is : (x : Fraction) → IsNumber x → IsNumber (nearest_number x)
nearest_is x h = whole_is (nearest_of x.numerator x.denominator) (subst (λ n. n < 2 ^ 127) (sym size) small)
  where
    a : ℕ
    a = unsigned_abs x.numerator

    positive : 0 < x.denominator
    positive = denominator-positive x h

    s : Bool
    s = lt_z x.numerator (pos 0)

    size : unsigned_abs (nearest_of x.numerator x.denominator) ≡ a / x.denominator + (if away_of s (a % x.denominator) x.denominator then 1 else 0)
    size = ap (λ p. unsigned_abs (nearest_of p x.denominator)) (signed_size x.numerator) ∙ (ap unsigned_abs (nearest-signed s a x.denominator positive) ∙ abs-of s _)

    small : a / x.denominator + (if away_of s (a % x.denominator) x.denominator then 1 else 0) < 2 ^ 127
    small = nearest_small s a x.denominator positive (bounds x h).0 (bounds x h).2
