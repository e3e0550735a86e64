-- Long division, and powers of ten.
use Rattle.std.proofs.Common.{◌≡◌, ℕ, ◌+◌, ◌*◌, ◌/◌, ◌<◌, ◌≤◌, ◌^◌, sym, ap, arith}
use Rattle.std.proofs.Math.Nat.{div-mul_cancel, div-add-mod, mul-le-mul_left, pow-zero, pow-le-pow_right}
use Rattle.std.proofs.Common.{inl, inr}
use Rattle.std.proofs.lemmas.Bool.{cases_lt}
use Rattle.std.specs.Int.{IsGcd}
use Rattle.abc_num.proofs.Powers.{power-le}

pub tens-at_most : (i most : ℕ) → i ≤ most → 10 ^ i ≤ 10 ^ most
tens-at_most i most h = pow-le-pow_right {n = 10} (omega arith) h

pub tens-below : (i n most : ℕ) → i < n → n ≤ most → 10 ^ i * 10 ≤ 10 ^ most
tens-below i n most h k = power-le 10 i most (omega arith) (omega arith)

-- the first decimals of a / b, as many as `turns`
pub record AreDecimals (a b digits rest power turns : ℕ) : Type 0 where
  pub power_is : power ≡ 10 ^ turns
  pub value : a * power ≡ digits * b + rest
  pub rest_less : rest < b
  pub digits_less : digits < power

pub no_decimals : (a b : ℕ) → a < b → AreDecimals a b 0 a 1 0
no_decimals a b h = record { power_is = sym (pow-zero 10); value = omega arith; rest_less = h; digits_less = omega arith }

-- a digit is below ten
pub digit-below : (b rest : ℕ) → rest < b → (10 * rest) / b ≤ 9
digit-below b rest h =
    let whole = div-add-mod (10 * rest) b in
    elim (cases_lt ((10 * rest) / b) 10) [
      | inl k ↦ omega arith
      | inr k ↦ (let p = mul-le-mul_left b k in absurd (omega (arith, whole, p)))
    ]

-- w + a / b, over the lowest denominator
pub whole_sides : (w a b g : ℕ) → IsGcd a b g → (w * (b / g) + a / g) * b ≡ (w * b + a) * (b / g)
whole_sides w a b g i =
    let p = div-mul_cancel g i.0 in
    let q = div-mul_cancel g i.1 in
    let parts : a / g * b ≡ a * (b / g) = omega (arith, ap (λ x. a / g * x) q, ap (λ x. x * (b / g)) p) in
    omega (arith, parts)
