-- Rounding a fraction to decimal places.
use Rattle.std.proofs.Common.{◌≡◌, ◌≢◌, ℕ, ◌+◌, ◌*◌, ◌/◌, ◌%◌, ◌<◌, ◌≤◌, ◌^◌, refl, sym, ap, ◌∙◌, subst, arith, ℤ, pos, ◌*ℤ◌, Bool, true, false, inl, inr, nat_lt, nat_le, negsuc, ◌≤ℤ◌, Result, Err}
use Rattle.std.specs.Prelude.{if◌then◌else◌, unsigned_abs}
use mir.Val.{bool_byte}
use Rattle.std.specs.Int.{IsGcd, ◌∣◌}
use Rattle.std.proofs.lemmas.Bool.{cases_lt}
use Rattle.std.proofs.lemmas.Bool.Decides.{nat_tests}
use Rattle.std.proofs.lemmas.Nat.{mul-le}
use Rattle.std.proofs.lemmas.Nat.Gcd.{IsGcd-swap, dvd_trans}
use Rattle.std.proofs.Math.Nat.{div-mul_cancel, dvd-mul_left, one-dvd, mod-lt, mul-le-mul_right}
use Rattle.abc_num.specs.declared.number.NumFault.{NumFault}
use Rattle.abc_num.specs.declared.number.NumFault.TheVariants.{NotWhole}
use Rattle.std.proofs.lemmas.Int.{ints}
use Rattle.abc_num.specs.Number.{Fraction, fraction, signed}
use Rattle.abc_num.specs.Ratio.{IsRatio, IsNoNumber}
use Rattle.abc_num.specs.Rounding.{nearest_of, away_of}
use Rattle.abc_num.specs.Operations.{IsRoundedTo}
use Rattle.abc_num.proofs.Digits.{power-positive}
use Rattle.abc_num.proofs.Divisors.{gauss, same_lowest}
use Rattle.abc_num.proofs.Floors.{divided}
use Rattle.abc_num.proofs.LowestTerms.{signed-*ℤ, sizes, number_lowest, bounds}
use Rattle.abc_num.proofs.Nearest.{nearest-parts}
use Rattle.abc_num.proofs.Ratios.{IsRatio-scaled, IsRatio-not_part}

pub byte_of : (u : Bool) → (if u then 1 else 0) ≡ bool_byte u
byte_of true = refl
byte_of false = refl

-- from the first decimals and what is left of the fraction behind the whole part
pub few_places : (s : Bool) (a b t digits rest : ℕ) → a % b * t ≡ digits * b + rest → rest < b → nearest_of (signed s a *ℤ pos t) b ≡ signed s (a / b * t + (digits + bool_byte (away_of s rest b)))
few_places s a b t digits rest e h =
    let whole = divided a b (a / b) refl in
    let sides : a * t ≡ (a / b * t + digits) * b + rest = omega (arith, ap (λ z. z * t) whole, e) in
    ap (λ z. nearest_of z b) (signed-*ℤ s a t)
    ∙ nearest-parts s (a * t) b (a / b * t + digits) rest sides h
    ∙ ap (signed s) (ap (λ z. (a / b * t + digits) + z) (byte_of (away_of s rest b)) ∙ (let k : (a / b * t + digits) + bool_byte (away_of s rest b) ≡ a / b * t + (digits + bool_byte (away_of s rest b)) = omega arith in k))

never_away : (s : Bool) (b : ℕ) → 0 < b → away_of s 0 b ≡ false
never_away false b h = grind (arith, nat_tests)
never_away true b h = grind (arith, nat_tests)

-- a fraction that has no more places is itself
pub all_places : (s : Bool) (a b t : ℕ) (r : Result Fraction NumFault) → 0 < b → 0 < t → b ∣ t → IsRatio (signed s a) (pos b) r → IsRatio (nearest_of (signed s a *ℤ pos t) b) (pos t) r
all_places s a b t r h k d i =
    let whole : b ∣ (a * t) = dvd_trans b d (dvd-mul_left t a) in
    let q = (a * t) / b in
    let sides = div-mul_cancel b whole in
    let value : nearest_of (signed s a *ℤ pos t) b ≡ signed s q =
    ap (λ z. nearest_of z b) (signed-*ℤ s a t)
    ∙ nearest-parts s (a * t) b q 0 (omega (arith, sides)) h
    ∙ ap (λ u. signed s (q + (if u then 1 else 0))) (never_away s b h)
    ∙ ap (signed s) (let z : q + 0 ≡ q = omega arith in z) in
    subst (λ z. IsRatio z (pos t) r) (sym value) (IsRatio-scaled s a b q t r h k (sym sides) i)

-- the nearest whole number k is at most half away from a / b
record IsClose (a b k : ℕ) : Type 0 where
  above : 2 * a ≤ 2 * (k * b) + b
  below : 2 * (k * b) ≤ 2 * a + b

close : (s : Bool) (a b q r : ℕ) → a ≡ q * b + r → r < b → IsClose a b (q + (if away_of s r b then 1 else 0))
close false a b q r e h = elim (cases_lt (2 * r) b) [
  | inl k ↦ (let t : nat_le b (2 * r) ≡ false = grind (arith, nat_tests) in rw t (record { above = omega (arith, e); below = omega (arith, e) }))
  | inr k ↦ (let t : nat_le b (2 * r) ≡ true = grind (arith, nat_tests) in rw t (record { above = omega (arith, e); below = omega (arith, e) }))
]
close true a b q r e h = elim (cases_lt b (2 * r)) [
  | inl k ↦ (let t : nat_lt b (2 * r) ≡ true = grind (arith, nat_tests) in rw t (record { above = omega (arith, e); below = omega (arith, e) }))
  | inr k ↦ (let t : nat_lt b (2 * r) ≡ false = grind (arith, nat_tests) in rw t (record { above = omega (arith, e); below = omega (arith, e) }))
]

-- a number u / v that is so near to a / b with small denominators is a / b
equal_values : (u v a b k t : ℕ) → IsClose (a * t) b k → u * t ≡ k * v → b * v < 2 * t → u * b ≡ a * v
equal_values u v a b k t c e small = elim (cases_lt (u * b) (a * v)) [
  | inl h ↦ (
      let less : (u * b + 1) * t ≤ (a * v) * t = mul-le-mul_right t (let z : u * b + 1 ≤ a * v = omega arith in z) in
      let near = mul-le-mul_right v c.above in
      absurd (omega (arith, less, near, ap (λ z. z * b) e))
      )
  | inr h ↦ elim (cases_lt (a * v) (u * b)) [
    | inl g ↦ (
        let more : (a * v + 1) * t ≤ (u * b) * t = mul-le-mul_right t (let z : a * v + 1 ≤ u * b = omega arith in z) in
        let near = mul-le-mul_right v c.below in
        absurd (omega (arith, more, near, ap (λ z. z * b) e))
        )
    | inr g ↦ omega arith
  ]
]

-- a fraction with more places is rounded to no number where there are so many places
pub no_places : (s : Bool) (a b t : ℕ) → IsGcd a b 1 → 2 ≤ b → b < 2 ^ 63 → 10 ^ 38 ≤ t → ¬ (b ∣ t) → IsNoNumber (nearest_of (signed s a *ℤ pos t) b) (pos t)
no_places s a b t i h small many n m j e =
    let whole = divided (a * t) b ((a * t) / b) refl in
    let least = mod-lt (a * t) (let z : 0 < b = omega arith in z) in
    let k = (a * t) / b + (if away_of s ((a * t) % b) b then 1 else 0) in
    let value : nearest_of (signed s a *ℤ pos t) b ≡ signed s k = ap (λ z. nearest_of z b) (signed-*ℤ s a t) ∙ nearest-parts s (a * t) b ((a * t) / b) ((a * t) % b) whole least in
    let near = close s (a * t) b ((a * t) / b) ((a * t) % b) whole least in
    let same : unsigned_abs m.numerator * t ≡ k * m.denominator = sizes s k t m (e ∙ ap (λ z. z *ℤ pos m.denominator) value) in
    let within = bounds m j in
    let low = number_lowest m j in
    let product = mul-le b m.denominator (2 ^ 63) (2 ^ 63) (let z : b ≤ 2 ^ 63 = omega arith in z) (let z : m.denominator ≤ 2 ^ 63 = omega (arith, within.1) in z) in
    let equal = equal_values (unsigned_abs m.numerator) m.denominator a b k t near same (omega (arith, product)) in
    let parts = same_lowest (unsigned_abs m.numerator) m.denominator a b low.0 i low.1 (omega arith) equal in
    let whole_multiple : a * t ≡ k * b = ap (λ z. z * t) (sym parts.0) ∙ same ∙ ap (λ z. k * z) parts.1 in
    n (gauss b a t (IsGcd-swap a b 1 i) (subst (λ z. b ∣ z) (sym whole_multiple) (dvd-mul_left b k)))

-- a whole number has no places to round
pub round_whole : (s : Bool) (a b : ℕ) (n : ℤ) (r : Result Fraction NumFault) → pos 0 ≤ℤ n → b ≡ 1 → IsRatio (signed s a) (pos 1) r → IsRoundedTo (fraction (signed s a) b) n r
round_whole s a b (pos n) r h e i =
    subst (λ d. IsRatio (nearest_of (signed s a *ℤ pos (10 ^ n)) d) (pos (10 ^ n)) r) (sym e) (all_places s a 1 (10 ^ n) r (omega arith) (power-positive 10 n (omega arith)) (one-dvd (10 ^ n)) i)
round_whole s a b (negsuc n) r h e i = absurd (omega (arith, ints, h))

-- rounding has no other fault than Overflow
pub IsRoundedTo-not_part : (x : Fraction) (n : ℤ) (r : Result Fraction NumFault) → IsRoundedTo x n r → r ≢ Err NotWhole
IsRoundedTo-not_part x (pos n) r i = IsRatio-not_part _ _ r i
IsRoundedTo-not_part x (negsuc n) r i = IsRatio-not_part _ _ r i
