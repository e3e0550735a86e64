-- The number a / b that is computed is the one that there is.
use Rattle.std.proofs.Common.{◌≡◌, ◌≢◌, ℕ, suc, zero, ◌*◌, ◌<◌, ◌/◌, ◌%◌, ◌^◌, refl, sym, ap, ◌∙◌, subst, arith, ℤ, pos, negsuc, ◌*ℤ◌, Bool, true, false, not, Result, Ok, Err, inl, inr}
use Rattle.std.specs.Prelude.{unsigned_abs, if◌then◌else◌}
use mathlib.Core.Bool.{beq}
use Rattle.std.specs.Int.{IsGcd}
use Rattle.std.proofs.lemmas.Bool.{cases_eq}
use Rattle.std.proofs.lemmas.Bool.Decides.{nat_tests}
use Rattle.std.proofs.lemmas.Nat.Gcd.{IsGcd-from_zero, IsGcd-from_mod}
use Rattle.std.proofs.Math.Nat.{div-mul_cancel, mod-lt}
use Rattle.abc_num.specs.declared.number.NumFault.{NumFault}
use Rattle.abc_num.specs.declared.number.NumFault.TheVariants.{Overflow}
use Rattle.abc_num.specs.Number.{Fraction, fraction, signed, AreParts}
use Rattle.abc_num.specs.Ratio.{IsRatio, IsNoNumber, gcd_within, gcd, are_within, number_or_overflow, is_negative, differ, ratio}
use Rattle.abc_num.proofs.Integers.{cancel}
use Rattle.abc_num.proofs.Divisors.{factor_positive}
use Rattle.abc_num.proofs.LowestTerms.{parts_coprime, same_parts, signed-*ℤ, only_parts, bounds, number-from_parts, too_great}
use Rattle.abc_num.proofs.Ratios.{IsRatio-same, IsRatio-ok, IsRatio-none, pos_ne}
use Rattle.abc_num.proofs.Signs.{signed-product}

gcd_within_is : (n a b : ℕ) → b < n → IsGcd a b (gcd_within n a b)
unfolding gcd_within
gcd_within_is zero a b h = absurd (omega arith)
gcd_within_is (suc n) a zero h = IsGcd-from_zero a 0 refl
gcd_within_is (suc n) a (suc b) h =
    let m : a % suc b < suc b = mod-lt a (omega arith) in
    IsGcd-from_mod a (suc b) (gcd_within n (suc b) (a % suc b)) (gcd_within_is n (suc b) (a % suc b) (omega arith))

pub gcd_is : (a b : ℕ) → IsGcd a b (gcd a b)
unfolding gcd
gcd_is a b = gcd_within_is (suc b) a b (omega arith)

within_parts : (x y : ℕ) → x < 2 ^ 127 → y < 2 ^ 63 → ((y ≡ 1 → ⊥) → x < 2 ^ 63) → are_within x y ≡ true
within_parts x y h k l = elim (cases_eq y 1) [ inl e ↦ grind (arith, nat_tests) | inr n ↦ let m = l n in grind (arith, nat_tests) ]

pub parts_within : (x y : ℕ) → 0 < y → IsGcd x y 1 → are_within x y ≡ true → AreParts x y
parts_within x y h i t = record {
  lowest = i;
  positive = h;
  bottom_fits = grind (arith, nat_tests);
  top_fits = grind (arith, nat_tests);
  narrow = λ n. grind (arith, nat_tests);
}

by_test : (s : Bool) (x y : ℕ) (b : Bool) → are_within x y ≡ b → 0 < y → IsGcd x y 1 → IsNoNumber (signed s x) (pos y) → b ≡ false
by_test s x y true t h i none = absurd (none (fraction (signed s x) y) (number-from_parts s x y (parts_within x y h i t)) refl)
by_test s x y false t h i none = refl

-- in lowest terms
ratio_of_bounded : (s : Bool) (x y : ℕ) (r : Result Fraction NumFault) → 0 < y → IsGcd x y 1 → IsRatio (signed s x) (pos y) r → r ≡ number_or_overflow s x y
unfolding IsRatio
ratio_of_bounded s x y (Ok n) h i v =
    let p = only_parts s x y n h i v.0 v.1 in
    let b = bounds n v.0 in
    let test : are_within x y ≡ true = within_parts x y (omega (arith, p.0, b.0)) (omega (arith, p.1, b.1)) (λ k. let m = b.2 (λ e. k (sym p.1 ∙ e)) in omega (arith, p.0)) in
    let top : n.numerator ≡ signed s x = cancel (pos y) n.numerator (signed s x) (pos_ne y h) (v.1 ∙ ap (λ d. signed s x *ℤ pos d) p.1) in
    let same : n ≡ fraction (signed s x) y = λ j. record { numerator = top j; denominator = p.1 j } in
    ap Ok same ∙ ap (λ t. if t then Ok (fraction (signed s x) y) else Err Overflow) (sym test)
ratio_of_bounded s x y (Err f) h i v =
    ap Err v.0 ∙ ap (λ t. if t then Ok (fraction (signed s x) y) else Err Overflow) (sym (by_test s x y (are_within x y) refl h i v.1))

size_pos : (b : ℤ) → b ≢ pos 0 → 0 < unsigned_abs b
size_pos (pos zero) h = absurd (h refl)
size_pos (pos (suc n)) h = omega arith
size_pos (negsuc n) h = omega arith

by_sign : (a : ℤ) → a ≡ signed (is_negative a) (unsigned_abs a)
by_sign (pos n) = refl
by_sign (negsuc n) = refl

twice_apart : (s t : Bool) → not (beq (differ s t) t) ≡ s
twice_apart false false = refl
twice_apart false true = refl
twice_apart true false = refl
twice_apart true true = refl

-- x / y, in lowest terms, has the value of a / b
same_ratio : (s t : Bool) (a b x y : ℕ) → a * y ≡ x * b → signed s a *ℤ pos y ≡ signed (differ s t) x *ℤ signed t b
same_ratio s t a b x y e =
    signed-*ℤ s a y ∙ ap (signed s) e ∙ ap (λ u. signed u (x * b)) (sym (twice_apart s t)) ∙ signed-product (differ s t) t x b

-- a over the common divisor is to b over it as a is to b
reduced_value : (a b : ℤ) → let g = gcd (unsigned_abs a) (unsigned_abs b) in
    a *ℤ pos (unsigned_abs b / g) ≡ signed (differ (is_negative a) (is_negative b)) (unsigned_abs a / g) *ℤ b
reduced_value a b =
    let s = is_negative a in
    let t = is_negative b in
    let m = unsigned_abs a in
    let n = unsigned_abs b in
    let g = gcd m n in
    ap (λ z. z *ℤ pos (n / g)) (by_sign a) ∙ same_ratio s t m n (m / g) (n / g) (sym (same_parts m n g (gcd_is m n))) ∙ ap (λ z. signed (differ s t) (m / g) *ℤ z) (sym (by_sign b))

pub ratio_is : (a b : ℤ) (r : Result Fraction NumFault) → b ≢ pos 0 → IsRatio a b r → r ≡ ratio a b
unfolding ratio
ratio_is a b r h v =
    let s = is_negative a in
    let t = is_negative b in
    let m = unsigned_abs a in
    let n = unsigned_abs b in
    let g = gcd m n in
    let i = gcd_is m n in
    let n_pos = size_pos b h in
    let y_pos = factor_positive (n / g) g n (div-mul_cancel g i.1) n_pos in
    ratio_of_bounded (differ s t) (m / g) (n / g) r y_pos (parts_coprime m n g n_pos i)
    (IsRatio-same a b (signed (differ s t) (m / g)) (pos (n / g)) r h (pos_ne (n / g) y_pos) (reduced_value a b) v)

-- in lowest terms, the number that is computed, or that there is none
bounded_is_ratio : (s : Bool) (x y : ℕ) (b : Bool) → are_within x y ≡ b → 0 < y → IsGcd x y 1
    → IsRatio (signed s x) (pos y) (if b then Ok (fraction (signed s x) y) else Err Overflow)
bounded_is_ratio s x y true t h i = IsRatio-ok (signed s x) (pos y) (fraction (signed s x) y) (number-from_parts s x y (parts_within x y h i t)) refl
bounded_is_ratio s x y false t h i = IsRatio-none (signed s x) (pos y) (too_great s x y h i wide narrow)
  where
    wide : y ≡ 1 → x < 2 ^ 127 → ⊥
    wide e l = let k : are_within x y ≡ true = within_parts x y l (omega (arith, e)) (λ n. absurd (n e)) in cc

    narrow : (y ≡ 1 → ⊥) → x < 2 ^ 63 → y < 2 ^ 63 → ⊥
    narrow n l m = let k : are_within x y ≡ true = within_parts x y (omega (arith, l)) m (λ z. l) in cc

pub ratio_has_value : (a b : ℤ) → b ≢ pos 0 → IsRatio a b (ratio a b)
unfolding ratio
ratio_has_value a b h =
    let s = is_negative a in
    let t = is_negative b in
    let m = unsigned_abs a in
    let n = unsigned_abs b in
    let g = gcd m n in
    let i = gcd_is m n in
    let n_pos = size_pos b h in
    let y_pos = factor_positive (n / g) g n (div-mul_cancel g i.1) n_pos in
    let e : a *ℤ pos (n / g) ≡ signed (differ s t) (m / g) *ℤ b = reduced_value a b in
    IsRatio-same (signed (differ s t) (m / g)) (pos (n / g)) a b _ (pos_ne (n / g) y_pos) h (sym e)
    (bounded_is_ratio (differ s t) (m / g) (n / g) (are_within (m / g) (n / g)) refl y_pos (parts_coprime m n g n_pos i))

pub is_ratio : (a b : ℤ) (r : Result Fraction NumFault) → b ≢ pos 0 → r ≡ ratio a b → IsRatio a b r
is_ratio a b r h e = subst (IsRatio a b) (sym e) (ratio_has_value a b h)
