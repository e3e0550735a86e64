-- Powers, by sign and size.
use Rattle.std.proofs.Common.{◌≡◌, ◌≢◌, ℕ, suc, zero, ◌+◌, ◌-◌, ◌*◌, ◌/◌, ◌%◌, ◌<◌, ◌≤◌, ◌^◌, refl, sym, ap, ◌∙◌, subst, arith, ℤ, pos, negsuc, neg_ℤ, ◌*ℤ◌, ◌<ℤ◌, Bool, true, false, inl, inr, ◌⊎◌, Result, Err, ◌==◌}
use Rattle.std.specs.Prelude.{unsigned_abs}
use Rattle.std.specs.Int.{IsGcd, ◌∣◌, int_pow}
use Rattle.std.proofs.lemmas.Grind.{pow_more}
use Rattle.std.proofs.lemmas.Int.{ints}
use Rattle.std.proofs.lemmas.Bool.{cases_eq}
use Rattle.std.proofs.lemmas.Bool.Decides.{nat_tests}
use Rattle.std.proofs.lemmas.Nat.Gcd.{IsGcd-swap, dvd_antisymm, dvd_refl}
use Rattle.std.proofs.Math.Nat.{pow-zero, pow-suc, pow-le-pow_right, one-dvd}
use Rattle.abc_num.specs.declared.number.NumFault.{NumFault}
use Rattle.abc_num.specs.declared.number.NumFault.TheVariants.{DivisionByZero, NotWhole}
use Rattle.abc_num.specs.Number.{Fraction, fraction, signed}
use Rattle.abc_num.specs.Ratio.{IsRatio, IsNoNumber}
use Rattle.abc_num.specs.Operations.{IsPower}
use Rattle.abc_num.proofs.Divisors.{coprime_mul, coprime_one, step_down, step_up}
use Rattle.abc_num.proofs.Digits.{power-positive}
use Rattle.abc_num.proofs.LowestTerms.{top_too_great, bottom_too_great}
use Rattle.abc_num.proofs.Ratios.{IsRatio-same, IsRatio-not_zero, IsRatio-not_part, pos_ne}
use Rattle.abc_num.proofs.Signs.{signed-product, signed_zero}

-- 0 and 1 stay as they are
pub power-small : (b e : ℕ) → b < 2 → e ≢ 0 → b ^ e ≡ b
power-small b zero h n = absurd (n refl)
power-small zero (suc e) h n = pow-suc 0 e ∙ (let k : 0 ^ e * 0 ≡ 0 = omega arith in k)
power-small (suc zero) (suc e) h n = ones (suc e)
  where
    ones : (k : ℕ) → 1 ^ k ≡ 1
    ones zero = pow-zero 1
    ones (suc k) = pow-suc 1 k ∙ (let m : 1 ^ k * 1 ≡ 1 ^ k = omega arith in m) ∙ ones k
power-small (suc (suc b)) (suc e) h n = absurd (omega arith)

-- a power is no greater than one with a greater exponent
pub power-le : (b i e : ℕ) → 0 < b → i < e → b ^ i * b ≤ b ^ e
power-le b i e h l = let p = pow-le-pow_right h (let k : i + 1 ≤ e = omega arith in k) in omega (arith, p, pow_more b i)

coprime_power_left : (a b e : ℕ) → IsGcd a b 1 → IsGcd (a ^ e) b 1
coprime_power_left a b zero i = subst (λ z. IsGcd z b 1) (sym (pow-zero a)) (IsGcd-swap b 1 1 (coprime_one b))
coprime_power_left a b (suc e) i = subst (λ z. IsGcd z b 1) (sym (pow-suc a e)) (coprime_mul (a ^ e) a b (coprime_power_left a b e i) i)

pub coprime_power : (a b e : ℕ) → IsGcd a b 1 → IsGcd (a ^ e) (b ^ e) 1
coprime_power a b e i =
    let left = coprime_power_left a b e i in
    IsGcd-swap (b ^ e) (a ^ e) 1 (coprime_power_left b (a ^ e) e (IsGcd-swap (a ^ e) b 1 left))

pub int_pow-even : (s : Bool) (a e : ℕ) → e % 2 ≡ 0 → int_pow (signed s a) e ≡ pos (a ^ e)
int_pow-even false a e h = refl
int_pow-even true zero e h = refl
int_pow-even true (suc a) e h = rw h refl

pub int_pow-odd : (s : Bool) (a e : ℕ) → e % 2 ≢ 0 → int_pow (signed s a) e ≡ signed s (a ^ e)
int_pow-odd false a e h = refl
int_pow-odd true zero e h =
    let z : 0 ^ e ≡ 0 = power-small 0 e (omega arith) (λ k. h (ap (λ n. n % 2) k)) in
    ap pos z ∙ ap (λ n. neg_ℤ (pos n)) (sym z)
int_pow-odd true (suc a) e h = let f : (e % 2 == 0) ≡ false = grind (arith, nat_tests) in rw f refl

-- the powers of a / b and b / a with one sign
turned : (s : Bool) (a b e : ℕ) → int_pow (signed s b) e *ℤ int_pow (signed s a) e ≡ pos (b ^ e) *ℤ pos (a ^ e)
turned s a b e = elim (cases_eq (e % 2) 0) [
  | inl h ↦ ap (λ z. z *ℤ int_pow (signed s a) e) (int_pow-even s b e h) ∙ ap (λ z. pos (b ^ e) *ℤ z) (int_pow-even s a e h)
  | inr h ↦ ap (λ z. z *ℤ int_pow (signed s a) e) (int_pow-odd s b e h) ∙ ap (λ z. signed s (b ^ e) *ℤ z) (int_pow-odd s a e h) ∙ squared s (b ^ e) (a ^ e)
]
  where
    squared : (s : Bool) (m n : ℕ) → signed s m *ℤ signed s n ≡ pos m *ℤ pos n
    squared false m n = refl
    squared true m n = sym (signed-product true true m n)

int_pow_ne : (s : Bool) (a e : ℕ) → 0 < a → int_pow (signed s a) e ≢ pos 0
int_pow_ne s a e h k =
    let p = power-positive a e h in
    elim (cases_eq (e % 2) 0) [
      | inl i ↦ pos_ne (a ^ e) p (sym (int_pow-even s a e i) ∙ k)
      | inr i ↦ (let z = signed_zero s (a ^ e) (sym (int_pow-odd s a e i) ∙ k) in absurd (omega arith))
    ]

pub power_turned : (s : Bool) (a b : ℕ) (e : ℤ) (r : Result Fraction NumFault) → e <ℤ pos 0 → 0 < a → IsRatio (int_pow (signed s b) (unsigned_abs e)) (pos (a ^ unsigned_abs e)) r → IsPower (fraction (signed s a) b) e r
power_turned s a b (pos n) r h p i = absurd (omega (arith, ints, h))
power_turned s a b (negsuc n) r h p i =
    IsRatio-same (int_pow (signed s b) (suc n)) (pos (a ^ suc n)) (pos (b ^ suc n)) (int_pow (signed s a) (suc n)) r (pos_ne _ (power-positive a (suc n) p)) (int_pow_ne s a (suc n) p) (turned s a b (suc n)) i

pub no_power : (s : Bool) (a b e : ℕ) → IsGcd a b 1 → 0 < b → (2 ^ 127 ≤ a ^ e) ⊎ (2 ^ 63 ≤ b ^ e) → IsNoNumber (int_pow (signed s a) e) (pos (b ^ e))
no_power s a b e i h past = elim (cases_eq (e % 2) 0) [
  | inl k ↦ subst (λ z. IsNoNumber z (pos (b ^ e))) (sym (int_pow-even s a e k)) (none false)
  | inr k ↦ subst (λ z. IsNoNumber z (pos (b ^ e))) (sym (int_pow-odd s a e k)) (none s)
]
  where
    none : (t : Bool) → IsNoNumber (signed t (a ^ e)) (pos (b ^ e))
    none t = elim past [
      | inl p ↦ top_too_great t (a ^ e) (b ^ e) (power-positive b e h) (coprime_power a b e i) p
      | inr p ↦ bottom_too_great t (a ^ e) (b ^ e) (power-positive b e h) (coprime_power a b e i) p
    ]

-- a power has no other fault than Overflow
pub IsPower-not_zero : (x : Fraction) (e : ℤ) (r : Result Fraction NumFault) → IsPower x e r → r ≢ Err DivisionByZero
IsPower-not_zero x (pos n) r i = IsRatio-not_zero _ _ r i
IsPower-not_zero x (negsuc n) r i = IsRatio-not_zero _ _ r i

pub IsPower-not_part : (x : Fraction) (e : ℤ) (r : Result Fraction NumFault) → IsPower x e r → r ≢ Err NotWhole
IsPower-not_part x (pos n) r i = IsRatio-not_part _ _ r i
IsPower-not_part x (negsuc n) r i = IsRatio-not_part _ _ r i

pub power-less : (b t : ℕ) → 0 < t → b ^ t ≡ b ^ (t - 1) * b
power-less b zero h = absurd (omega arith)
power-less b (suc t) h = pow-suc b t ∙ ap (λ n. b ^ n * b) (let k : t ≡ suc t - 1 = omega arith in k)

-- what is left of a divisor of a power of ten
pub power_step : (a g t : ℕ) → 0 < a → 0 < t → IsGcd a 10 g → ((a ∣ (10 ^ t)) → (a / g) ∣ (10 ^ (t - 1))) × ((a / g) ∣ (10 ^ (t - 1)) → a ∣ (10 ^ t))
power_step a g t h k i = (
  λ p. step_down a g (t - 1) h i (subst (λ x. a ∣ x) (power-less 10 t k) p),
  λ p. subst (λ x. a ∣ x) (sym (power-less 10 t k)) (step_up a g (t - 1) h i p),
)

-- a number that shares no divisor with ten divides no power of it, unless it is 1
pub no_power_of_ten : (a t : ℕ) → IsGcd a 10 1 → a ≢ 1 → a ∣ (10 ^ t) → ⊥
no_power_of_ten a t i n p =
    let apart : IsGcd (10 ^ t) a 1 = coprime_power_left 10 a t (IsGcd-swap a 10 1 i) in
    n (dvd_antisymm (apart.2 a p (dvd_refl a)) (one-dvd a))

pub divides_one : (a : ℕ) → a ∣ (10 ^ 0) → a ≡ 1
divides_one a p = dvd_antisymm p (one-dvd a)
