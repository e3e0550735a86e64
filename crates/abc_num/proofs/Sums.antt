-- Sums of signed numbers, and why a wide whole number and a proper fraction have none.
use Rattle.std.proofs.Common.{◌≡◌, ◌≢◌, ℕ, suc, zero, ◌+◌, ◌-◌, ◌*◌, ◌<◌, ◌≤◌, ◌^◌, refl, sym, ap, ◌∙◌, subst, arith, ℤ, pos, negsuc, ◌*ℤ◌, ◌+ℤ◌, ◌-ℤ◌, neg_ℤ, Bool, true, false, max, inl, inr, ◌⊎◌}
use Rattle.std.specs.Prelude.{unsigned_abs}
use mathlib.Core.Bool.{beq}
use Rattle.std.specs.Int.{IsGcd, ◌∣◌}
use Rattle.std.proofs.lemmas.Int.{ints, unsigned_abs-mul}
use Rattle.std.proofs.lemmas.Bool.{cases_eq}
use Rattle.std.proofs.Math.Nat.{mul-le-mul_left, dvd-mul_left, dvd-add_iff_right, one-dvd}
use Rattle.std.proofs.lemmas.Nat.Gcd.{dvd_antisymm, dvd_refl}
use Rattle.abc_num.specs.Number.{Fraction, signed, IsNumber, AreParts}
use Rattle.abc_num.specs.Ratio.{IsNoNumber}
use Rattle.abc_num.proofs.LowestTerms.{number_lowest, bounds, abs-signed, signed-*ℤ}

pub signed-add_same : (s : Bool) (a b : ℕ) → signed s a +ℤ signed s b ≡ signed s (a + b)
signed-add_same false a b = refl
signed-add_same true zero b = omega (arith, ints)
signed-add_same true (suc a) zero = omega (arith, ints)
signed-add_same true (suc a) (suc b) = omega (arith, ints)

pub signed-add_beq : (s t : Bool) (a b : ℕ) → beq s t ≡ true → signed s a +ℤ signed t b ≡ signed s (a + b)
signed-add_beq false false a b h = refl
signed-add_beq true true a b h = signed-add_same true a b
signed-add_beq false true a b h = cc
signed-add_beq true false a b h = cc

pub signed-add_apart : (s t : Bool) (a b : ℕ) → beq s t ≡ false → b ≤ a → signed s a +ℤ signed t b ≡ signed s (a - b)
signed-add_apart false false a b n h = cc
signed-add_apart true true a b n h = cc
signed-add_apart false true a b n h = omega (arith, ints)
signed-add_apart true false a b n h = omega (arith, ints)

pub signed-add_apart_less : (s t : Bool) (a b : ℕ) → beq s t ≡ false → a ≤ b → signed s a +ℤ signed t b ≡ signed t (b - a)
signed-add_apart_less false false a b n h = cc
signed-add_apart_less true true a b n h = cc
signed-add_apart_less false true a b n h = omega (arith, ints)
signed-add_apart_less true false a b n h = omega (arith, ints)

neg-*ℤ : (b : ℤ) (d : ℕ) → neg_ℤ b *ℤ pos d ≡ neg_ℤ (b *ℤ pos d)
neg-*ℤ (pos zero) d = omega (arith, ints)
neg-*ℤ (pos (suc b)) zero = omega (arith, ints)
neg-*ℤ (pos (suc b)) (suc d) = omega (arith, ints)
neg-*ℤ (negsuc b) d = omega (arith, ints)

-- a difference is the sum with the negative
pub add-neg : (a b : ℤ) (d : ℕ) → a +ℤ neg_ℤ b *ℤ pos d ≡ a -ℤ b *ℤ pos d
add-neg a b d = let e = neg-*ℤ b d in omega (arith, ints, e)

-- the size of a sum with a second part that is no greater
abs-add : (s t : Bool) (m n : ℕ) → n ≤ m → (unsigned_abs (signed s m +ℤ signed t n) ≡ m + n) ⊎ (unsigned_abs (signed s m +ℤ signed t n) + n ≡ m)
abs-add false false m n h = inl refl
abs-add true true m n h = inl (ap unsigned_abs (signed-add_same true m n) ∙ abs-signed true (m + n))
abs-add false true m n h = let e = ap unsigned_abs (signed-add_apart false true m n refl h) in inr (omega (arith, e))
abs-add true false m n h = let e = ap unsigned_abs (signed-add_apart true false m n refl h) ∙ abs-signed true (m - n) in inr (omega (arith, e))

-- d divides both sides of u * d = a * d + c, and so c
divides_rest : (u a c d : ℕ) → (u * d ≡ a * d + c) ⊎ (u * d + c ≡ a * d) → d ∣ c
divides_rest u a c d (inl e) = (dvd-add_iff_right d (dvd-mul_left d a)).1 (subst (λ z. d ∣ z) e (dvd-mul_left d u))
divides_rest u a c d (inr e) = (dvd-add_iff_right d (dvd-mul_left d u)).1 (subst (λ z. d ∣ z) (sym e) (dvd-mul_left d a))

-- a wide whole number a and a proper fraction c / d, whose sum would have the size N / d = u / v
whole_size : (u v a c d N : ℕ) → 2 ≤ d → IsGcd c d 1 → (N ≡ a * d + c) ⊎ (N + c ≡ a * d) → u * d ≡ N * v → v ≡ 1 → ⊥
whole_size u v a c d N h g e f one =
    let same : u * d ≡ N = f ∙ ap (λ z. N * z) one ∙ (let k : N * 1 ≡ N = omega arith in k) in
    let rest = divides_rest u a c d (elim e [ inl p ↦ inl (same ∙ p) | inr p ↦ inr (ap (λ z. z + c) same ∙ p) ]) in
    let unit : d ≡ 1 = dvd_antisymm (g.2 d rest (dvd_refl d)) (one-dvd d) in
    absurd (omega arith)

proper_size : (u v a c d N : ℕ) → 2 ^ 63 ≤ a → c < 2 ^ 63 → 2 ≤ d → (N ≡ a * d + c) ⊎ (N + c ≡ a * d) → u * d ≡ N * v → 2 ≤ v → u < 2 ^ 63 → ⊥
proper_size u v a c d N ha hc hd e f hv hu =
    let p : N * 2 ≤ N * v = mul-le-mul_left N hv in
    let q : d * u ≤ d * (2 ^ 63 - 1) = mul-le-mul_left d (let k : u ≤ 2 ^ 63 - 1 = omega arith in k) in
    let r : d * 2 ^ 63 ≤ d * a = mul-le-mul_left d ha in
    let t : a * d ≤ N + c = elim e [ inl z ↦ omega arith | inr z ↦ omega arith ] in
    absurd (omega (arith, p, q, r, t, f))

pub no_size : (n : Fraction) (a c d N : ℕ) → IsNumber n → 2 ^ 63 ≤ a → AreParts c d → 2 ≤ d → (N ≡ a * d + c) ⊎ (N + c ≡ a * d) → unsigned_abs n.numerator * d ≡ N * n.denominator → ⊥
no_size n a c d N i ha y hd e f =
    let low = number_lowest n i in
    let small = y.narrow (λ z. absurd (omega arith)) in
    elim (cases_eq n.denominator 1) [
      | inl one ↦ whole_size (unsigned_abs n.numerator) n.denominator a c d N hd y.lowest e f one
      | inr more ↦ proper_size (unsigned_abs n.numerator) n.denominator a c d N ha small hd e f (omega (arith, low.1, more)) ((bounds n i).2 more)
    ]

pub sum_none_left : (s t : Bool) (a c d : ℕ) → 2 ^ 63 ≤ a → AreParts c d → 2 ≤ d → IsNoNumber (signed s a *ℤ pos d +ℤ signed t c *ℤ pos 1) (pos (1 * d))
sum_none_left s t a c d h y hd n i e =
    let small = y.narrow (λ z. absurd (omega arith)) in
    let least : c ≤ a * d = omega (arith, mul-le-mul_left a hd) in
    let sum : signed s a *ℤ pos d +ℤ signed t c *ℤ pos 1 ≡ signed s (a * d) +ℤ signed t c =
    ap (λ z. z +ℤ signed t c *ℤ pos 1) (signed-*ℤ s a d) ∙ ap (λ z. signed s (a * d) +ℤ z) (signed-*ℤ t c 1 ∙ ap (signed t) (let k : c * 1 ≡ c = omega arith in k)) in
    let N = unsigned_abs (signed s (a * d) +ℤ signed t c) in
    let whole : unsigned_abs n.numerator * (1 * d) ≡ N * n.denominator =
    sym (unsigned_abs-mul n.numerator (pos (1 * d))) ∙ ap unsigned_abs e ∙ unsigned_abs-mul _ (pos n.denominator) ∙ ap (λ z. unsigned_abs z * n.denominator) sum in
    no_size n a c d N i h y hd (abs-add s t (a * d) c least) (ap (λ z. unsigned_abs n.numerator * z) (let k : d ≡ 1 * d = omega arith in k) ∙ whole)

pub sum_none_right : (s t : Bool) (a c d : ℕ) → 2 ^ 63 ≤ a → AreParts c d → 2 ≤ d → IsNoNumber (signed t c *ℤ pos 1 +ℤ signed s a *ℤ pos d) (pos (d * 1))
sum_none_right s t a c d h y hd =
    let comm : signed s a *ℤ pos d +ℤ signed t c *ℤ pos 1 ≡ signed t c *ℤ pos 1 +ℤ signed s a *ℤ pos d = omega (arith, ints) in
    let bottom : 1 * d ≡ d * 1 = omega arith in
    subst (λ z. IsNoNumber z (pos (d * 1))) comm (subst (λ z. IsNoNumber (signed s a *ℤ pos d +ℤ signed t c *ℤ pos 1) (pos z)) bottom (sum_none_left s t a c d h y hd))

-- what a sum of parts is where one is wide and the denominators differ
pub sum_none : (s t : Bool) (a b c d : ℕ) → AreParts a b → AreParts c d → b ≢ d → 2 ^ 63 ≤ max a c → IsNoNumber (signed s a *ℤ pos d +ℤ signed t c *ℤ pos b) (pos (b * d))
sum_none s t a b c d x y n h =
    elim (cases_eq b 1) [
      | inl one ↦ left one
      | inr more ↦ elim (cases_eq d 1) [
        | inl one ↦ right one
        | inr more' ↦ absurd (omega (arith, x.narrow more, y.narrow more'))
      ]
    ]
  where
    left : b ≡ 1 → IsNoNumber (signed s a *ℤ pos d +ℤ signed t c *ℤ pos b) (pos (b * d))
    left one =
        let proper : 2 ≤ d = omega (arith, y.positive, n) in
        let wide : 2 ^ 63 ≤ a = omega (arith, y.narrow (λ z. absurd (omega arith))) in
        subst (λ z. IsNoNumber (signed s a *ℤ pos d +ℤ signed t c *ℤ pos z) (pos (z * d))) (sym one) (sum_none_left s t a c d wide y proper)

    right : d ≡ 1 → IsNoNumber (signed s a *ℤ pos d +ℤ signed t c *ℤ pos b) (pos (b * d))
    right one =
        let proper : 2 ≤ b = omega (arith, x.positive, n) in
        let wide : 2 ^ 63 ≤ c = omega (arith, x.narrow (λ z. absurd (omega arith))) in
        subst (λ z. IsNoNumber (signed s a *ℤ pos z +ℤ signed t c *ℤ pos b) (pos (b * z))) (sym one) (sum_none_right t s c a b wide x proper)
