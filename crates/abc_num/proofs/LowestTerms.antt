-- A fraction and its lowest terms.
use Rattle.std.proofs.Common.{◌≡◌, ℕ, suc, zero, ◌*◌, ◌<◌, ◌≤◌, ◌/◌, ◌^◌, refl, sym, ap, ◌∙◌, subst, arith, pos, neg_ℤ, ◌*ℤ◌, Bool, true, false, not, inl, inr}
use Rattle.std.specs.Prelude.{unsigned_abs}
use Rattle.std.specs.Int.{IsGcd, ◌∣◌}
use Rattle.std.proofs.lemmas.Bool.{cases_eq}
use Rattle.std.proofs.lemmas.Int.{ints, unsigned_abs-mul}
use Rattle.std.proofs.Math.Nat.{one-dvd, div-mul_cancel, mul-dvd-mul_right, dvd_of_mul-dvd-mul_right, pos_of_dvd_of_pos}
use Rattle.abc_num.specs.Number.{Fraction, fraction, IsNumber, AreParts, Equals, signed}
use Rattle.abc_num.proofs.Divisors.{same_lowest}

pub divisor_pos : (a b g : ℕ) → 0 < b → IsGcd a b g → 0 < g
divisor_pos a b g h i = pos_of_dvd_of_pos i.1 h

pub parts_coprime : (a b g : ℕ) → 0 < b → IsGcd a b g → IsGcd (a / g) (b / g) 1
parts_coprime a b g h i =
    let P : ℕ → ℕ → Type 0 = λ d x. (d * g) ∣ x in (
      one-dvd (a / g),
      one-dvd (b / g),
      λ d p q.
          let u : (d * g) ∣ a = subst (P d) (div-mul_cancel g i.0) (mul-dvd-mul_right d p g) in
          let v : (d * g) ∣ b = subst (P d) (div-mul_cancel g i.1) (mul-dvd-mul_right d q g) in
          let e : g ≡ 1 * g = omega arith in
          dvd_of_mul-dvd-mul_right d (divisor_pos a b g h i) (subst (λ x. (d * g) ∣ x) e (i.2 (d * g) u v)),
    )

pub signed-*ℤ : (s : Bool) (x y : ℕ) → signed s x *ℤ pos y ≡ signed s (x * y)
signed-*ℤ false x y = refl
signed-*ℤ true zero y = omega (arith, ints)
signed-*ℤ true (suc x) y = omega (arith, ints)

pub abs-signed : (s : Bool) (x : ℕ) → unsigned_abs (signed s x) ≡ x
abs-signed false x = refl
abs-signed true zero = refl
abs-signed true (suc x) = refl

-- the parts have the value of the whole
pub same_parts : (a b g : ℕ) → IsGcd a b g → a / g * b ≡ a * (b / g)
same_parts a b g i = omega (arith, ap (λ x. a / g * x) (div-mul_cancel g i.1), ap (λ x. x * (b / g)) (div-mul_cancel g i.0))

pub number_lowest : (n : Fraction) → IsNumber n → IsGcd (unsigned_abs n.numerator) n.denominator 1 × (0 < n.denominator)
unfolding IsNumber
number_lowest n (inl h) =
    let P : ℕ → Type 0 = λ d. IsGcd (unsigned_abs n.numerator) d 1 in
    (subst P (sym h.0) (one-dvd _, one-dvd 1, λ d p q. q), omega (arith, h.0))
number_lowest n (inr h) = (h.3, omega (arith, h.0))

-- the sizes of a number that has the value x / y
pub sizes : (s : Bool) (x y : ℕ) (n : Fraction) → Equals (signed s x) (pos y) n → unsigned_abs n.numerator * y ≡ x * n.denominator
sizes s x y n e =
    sym (unsigned_abs-mul n.numerator (pos y)) ∙ ap unsigned_abs e ∙ unsigned_abs-mul (signed s x) (pos n.denominator) ∙ ap (λ z. z * n.denominator) (abs-signed s x)

-- a number with the value x / y in lowest terms has these parts
pub only_parts : (s : Bool) (x y : ℕ) (n : Fraction) → 0 < y → IsGcd x y 1 → IsNumber n → Equals (signed s x) (pos y) n → (unsigned_abs n.numerator ≡ x) × (n.denominator ≡ y)
only_parts s x y n h i k e =
    let low = number_lowest n k in
    same_lowest (unsigned_abs n.numerator) n.denominator x y low.0 i low.1 h (sizes s x y n e)

pub whole_is_number : (s : Bool) (x : ℕ) → x < 2 ^ 127 → IsNumber (fraction (signed s x) 1)
unfolding IsNumber
whole_is_number s x l = inl (refl, omega (arith, abs-signed s x))

pub proper_is_number : (s : Bool) (x y : ℕ) → IsGcd x y 1 → 0 < y → (y ≡ 1 → ⊥) → y < 2 ^ 63 → x < 2 ^ 63 → IsNumber (fraction (signed s x) y)
unfolding IsNumber
proper_is_number s x y i p q h l =
    let P : ℕ → Type 0 = λ z. IsGcd z y 1 in
    inr (omega arith, h, omega (arith, abs-signed s x), subst P (sym (abs-signed s x)) i)

-- a number is within 127 bits, and within 63 bits where it is not whole
pub bounds : (n : Fraction) → IsNumber n → (unsigned_abs n.numerator < 2 ^ 127) × (n.denominator < 2 ^ 63) × ((n.denominator ≡ 1 → ⊥) → unsigned_abs n.numerator < 2 ^ 63)
unfolding IsNumber
bounds n (inl h) = (h.1, omega (arith, h.0), λ k. absurd (k h.0))
bounds n (inr h) = (omega (arith, h.2), h.1, λ k. h.2)

-- a fraction in lowest terms that has too great parts is no number
pub too_great : (s : Bool) (x y : ℕ) → 0 < y → IsGcd x y 1 → (y ≡ 1 → x < 2 ^ 127 → ⊥) → ((y ≡ 1 → ⊥) → x < 2 ^ 63 → y < 2 ^ 63 → ⊥) → (n : Fraction) → IsNumber n → Equals (signed s x) (pos y) n → ⊥
too_great s x y h i u v n k e =
    let p = only_parts s x y n h i k e in
    let b = bounds n k in
    let w : (y ≡ 1 → ⊥) → ⊥ = λ q. v q (omega (arith, p.0, b.2 (λ z. q (sym p.1 ∙ z)))) (omega (arith, p.1, b.1)) in
    w (λ q. u q (omega (arith, p.0, b.0)))

pub top_too_great : (s : Bool) (x y : ℕ) → 0 < y → IsGcd x y 1 → 2 ^ 127 ≤ x → (n : Fraction) → IsNumber n → Equals (signed s x) (pos y) n → ⊥
top_too_great s x y h i l = too_great s x y h i (λ e k. absurd (omega arith)) (λ e k m. absurd (omega arith))

pub bottom_too_great : (s : Bool) (x y : ℕ) → 0 < y → IsGcd x y 1 → 2 ^ 63 ≤ y → (n : Fraction) → IsNumber n → Equals (signed s x) (pos y) n → ⊥
bottom_too_great s x y h i l = too_great s x y h i (λ e k. absurd (omega arith)) (λ e k m. absurd (omega arith))

pub number_parts : (n : Fraction) → IsNumber n → AreParts (unsigned_abs n.numerator) n.denominator
number_parts n i =
    let low = number_lowest n i in
    let b = bounds n i in
    record { lowest = low.0; positive = low.1; bottom_fits = b.1; top_fits = b.0; narrow = b.2 }

pub number-from_parts : (s : Bool) (x y : ℕ) → AreParts x y → IsNumber (fraction (signed s x) y)
number-from_parts s x y p =
    elim (cases_eq y 1) [
      | inl e ↦ subst (λ z. IsNumber (fraction (signed s x) z)) (sym e) (whole_is_number s x p.top_fits)
      | inr n ↦ proper_is_number s x y p.lowest p.positive n p.bottom_fits (p.narrow n)
    ]

pub signed-not : (s : Bool) (x : ℕ) → signed (not s) x ≡ neg_ℤ (signed s x)
signed-not false x = refl
signed-not true zero = refl
signed-not true (suc x) = refl
