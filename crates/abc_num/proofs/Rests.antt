-- What is left of a number that is taken by another.
use Rattle.std.proofs.Common.{◌≡◌, ◌≢◌, ℕ, suc, zero, ◌-◌, ◌*◌, ◌%◌, ◌<◌, ◌≤◌, ◌^◌, sym, ap, ◌∙◌, subst, arith, pos, ◌*ℤ◌, Bool, true, false, inl, inr, Result}
use mathlib.Core.Bool.{beq}
use Rattle.std.specs.Int.{IsGcd}
use Rattle.std.proofs.lemmas.Bool.{cases_eq, cases_lt}
use Rattle.std.proofs.lemmas.Nat.{mul-le}
use Rattle.std.proofs.lemmas.Nat.Gcd.{dvd_antisymm, dvd_refl, dvd-zero}
use Rattle.std.proofs.Math.Nat.{mod-eq_of_lt, one-dvd}
use Rattle.abc_num.specs.declared.number.NumFault.{NumFault}
use Rattle.abc_num.specs.Number.{Fraction, signed, AreParts}
use Rattle.abc_num.specs.Ratio.{IsRatio, IsNoNumber}
use Rattle.abc_num.specs.Rounding.{floor_mod}
use Rattle.abc_num.proofs.LowestTerms.{signed-*ℤ, sizes}
use Rattle.abc_num.proofs.Sums.{no_size}
use Rattle.abc_num.proofs.Floors.{floor_mod-zero, floor_mod-same, floor_mod-apart}
use Rattle.abc_num.proofs.Signs.{beq_same}

-- over the common denominator
pub floor_mod-common : (s t : Bool) (a b c d : ℕ) → floor_mod (signed s a *ℤ pos d) (signed t c *ℤ pos b) ≡ floor_mod (signed s (a * d)) (signed t (c * b))
floor_mod-common s t a b c d = ap (λ z. floor_mod z (signed t c *ℤ pos b)) (signed-*ℤ s a d) ∙ ap (floor_mod (signed s (a * d))) (signed-*ℤ t c b)

-- a numerator of a fraction that is not whole is not 0
pub proper_top : (a b : ℕ) → 2 ≤ b → IsGcd a b 1 → 0 < a
proper_top zero b h i = let unit : b ≡ 1 = dvd_antisymm (i.2 b (dvd-zero b) (dvd_refl b)) (one-dvd b) in absurd (omega arith)
proper_top (suc a) b h i = omega arith

module _ (a b c d : ℕ) (x : AreParts a b) (y : AreParts c d) (far : 2 ^ 128 ≤ c * b) where
  far_wide : 2 ^ 63 ≤ c
  far_wide = elim (cases_lt c (2 ^ 63)) [
    | inl h ↦ (let p = mul-le c b (2 ^ 63) (2 ^ 63) (let k : c ≤ 2 ^ 63 = omega arith in k) (let k : b ≤ 2 ^ 63 = omega (arith, x.bottom_fits) in k) in absurd (omega (arith, p)))
    | inr h ↦ h
  ]

  pub far_whole : d ≡ 1
  far_whole = elim (cases_eq d 1) [ inl e ↦ e | inr n ↦ absurd (omega (arith, y.narrow n, far_wide)) ]

  far_not_one : b ≢ 1
  far_not_one e = let k : c * b ≡ c * 1 = ap (λ z. c * z) e in absurd (omega (arith, k, y.top_fits))

  far_proper : 2 ≤ b
  far_proper = let n = far_not_one in omega (arith, x.positive, n)

  far_narrow : a < 2 ^ 63
  far_narrow = x.narrow far_not_one

  far_rest : (a * d) % (c * b) ≡ a
  far_rest =
      let one : a * d ≡ a = ap (λ z. a * z) far_whole ∙ (let k : a * 1 ≡ a = omega arith in k) in
      ap (λ z. z % (c * b)) one ∙ mod-eq_of_lt (let k : a < c * b = omega (arith, far_narrow) in k)

  pub far_same : (s : Bool) (r : Result Fraction NumFault) → IsRatio (signed s a) (pos b) r → IsRatio (floor_mod (signed s a *ℤ pos d) (signed s c *ℤ pos b)) (pos (b * d)) r
  far_same s r i =
      let value = floor_mod-common s s a b c d ∙ floor_mod-same s (a * d) (c * b) (omega arith) ∙ ap (signed s) far_rest in
      let bottom : b ≡ b * d = (let k : b ≡ b * 1 = omega arith in k) ∙ ap (λ z. b * z) (sym far_whole) in
      subst (λ z. IsRatio z (pos (b * d)) r) (sym value) (subst (λ z. IsRatio (signed s a) (pos z) r) bottom i)

  pub far_apart : (s t : Bool) → beq s t ≡ false → IsNoNumber (floor_mod (signed s a *ℤ pos d) (signed t c *ℤ pos b)) (pos (b * d))
  far_apart s t n =
      let top = proper_top a b far_proper x.lowest in
      let left : (a * d) % (c * b) ≢ 0 = λ e. let z = sym far_rest ∙ e in absurd (omega arith) in
      let value = floor_mod-common s t a b c d ∙ floor_mod-apart s t (a * d) (c * b) n (omega arith) left ∙ ap (λ z. signed t (c * b - z)) far_rest in
      let bottom : b ≡ b * d = (let k : b ≡ b * 1 = omega arith in k) ∙ ap (λ z. b * z) (sym far_whole) in
      let none : IsNoNumber (signed t (c * b - a)) (pos b) = λ m i e. no_size m c a b (c * b - a) i far_wide x far_proper (inr (omega (arith, far_narrow))) (sizes t (c * b - a) b m e) in
      subst (λ z. IsNoNumber z (pos (b * d))) (sym value) (subst (λ z. IsNoNumber (signed t (c * b - a)) (pos z)) bottom none)

-- what is left, over the common denominator
module _ (s t : Bool) (a b c d : ℕ) (h : 0 < c * b) where
  pub rest_none : (a * d) % (c * b) ≡ 0 → floor_mod (signed s a *ℤ pos d) (signed t c *ℤ pos b) ≡ signed t ((a * d) % (c * b))
  rest_none e = floor_mod-common s t a b c d ∙ floor_mod-zero s t (a * d) (c * b) h e ∙ ap (signed t) (sym e)

  pub rest_same : beq s t ≡ true → floor_mod (signed s a *ℤ pos d) (signed t c *ℤ pos b) ≡ signed t ((a * d) % (c * b))
  rest_same e =
      let k = beq_same s t e in
      ap (λ u. floor_mod (signed u a *ℤ pos d) (signed t c *ℤ pos b)) k ∙ floor_mod-common t t a b c d ∙ floor_mod-same t (a * d) (c * b) h

  pub rest_apart : beq s t ≡ false → (a * d) % (c * b) ≢ 0 → floor_mod (signed s a *ℤ pos d) (signed t c *ℤ pos b) ≡ signed t (c * b - (a * d) % (c * b))
  rest_apart e n = floor_mod-common s t a b c d ∙ floor_mod-apart s t (a * d) (c * b) e h n
