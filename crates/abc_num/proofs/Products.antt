-- A product that was reduced crosswise.
use Rattle.std.proofs.Common.{◌≡◌, ℕ, ◌*◌, ◌<◌, ◌≤◌, ◌/◌, ◌^◌, sym, ap, ◌∙◌, subst, arith, pos, Bool, Result}
use Rattle.std.specs.Int.{IsGcd, ◌∣◌}
use Rattle.std.proofs.lemmas.Nat.Gcd.{IsGcd-swap}
use Rattle.std.proofs.Math.Nat.{div-mul_cancel, dvd-mul_right}
use Rattle.abc_num.specs.declared.number.NumFault.{NumFault}
use Rattle.abc_num.specs.Number.{Fraction, signed}
use Rattle.abc_num.specs.Ratio.{IsRatio, IsNoNumber}
use Rattle.abc_num.proofs.Integers.{same_value}
use Rattle.abc_num.proofs.Divisors.{coprime_parts, coprime_mul, factor_positive}
use Rattle.abc_num.proofs.LowestTerms.{parts_coprime, divisor_pos, signed-*ℤ, top_too_great, bottom_too_great}
use Rattle.abc_num.proofs.Ratios.{IsRatio-scaled, pos_ne, product_pos}

shuffle : (x y u v l r : ℕ) → (x * y) * ((u * r) * (v * l)) ≡ ((x * l) * (y * r)) * (u * v)
shuffle x y u v l r = omega arith

module _ (a b c d l r : ℕ) (one_ab : IsGcd a b 1) (one_cd : IsGcd c d 1) (left : IsGcd a d l) (right : IsGcd c b r) (pos_b : 0 < b) (pos_d : 0 < d) where
  pub product_coprime : IsGcd (a / l * (c / r)) (b / r * (d / l)) 1
  product_coprime =
      let x = a / l in
      let y = c / r in
      let u = b / r in
      let v = d / l in
      let dx : x ∣ a = subst (λ z. x ∣ z) (div-mul_cancel l left.0) (dvd-mul_right x l) in
      let dy : y ∣ c = subst (λ z. y ∣ z) (div-mul_cancel r right.0) (dvd-mul_right y r) in
      let du : u ∣ b = subst (λ z. u ∣ z) (div-mul_cancel r right.1) (dvd-mul_right u r) in
      let dv : v ∣ d = subst (λ z. v ∣ z) (div-mul_cancel l left.1) (dvd-mul_right v l) in
      let xu = coprime_parts a b x u one_ab dx du in
      let yv = coprime_parts c d y v one_cd dy dv in
      let xv = parts_coprime a d l pos_d left in
      let yu = parts_coprime c b r pos_b right in
      let whole_u = coprime_mul x y u xu yu in
      let whole_v = coprime_mul x y v xv yv in
      IsGcd-swap (u * v) (x * y) 1 (coprime_mul u v (x * y) (IsGcd-swap (x * y) u 1 whole_u) (IsGcd-swap (x * y) v 1 whole_v))

  product_equal : (a / l * (c / r)) * (b * d) ≡ (a * c) * (b / r * (d / l))
  product_equal =
      let P : ℕ → ℕ → ℕ → ℕ → Type 0 = λ p q s t. (a / l * (c / r)) * (q * t) ≡ (p * s) * (b / r * (d / l)) in
      let e = shuffle (a / l) (c / r) (b / r) (d / l) l r in
      subst (λ p. P p b c d) (div-mul_cancel l left.0)
      (subst (λ q. P (a / l * l) q c d) (div-mul_cancel r right.1)
      (subst (λ s. P (a / l * l) (b / r * r) s d) (div-mul_cancel r right.0)
      (subst (λ t. P (a / l * l) (b / r * r) (c / r * r) t) (div-mul_cancel l left.1) e)))

  pub divisors_pos : (0 < l) × (0 < r)
  divisors_pos = (divisor_pos a d l pos_d left, divisor_pos c b r pos_b right)

  pub bottom_pos : 0 < b / r * (d / l)
  bottom_pos = product_pos (b / r) (d / l) (factor_positive (b / r) r b (div-mul_cancel r right.1) pos_b) (factor_positive (d / l) l d (div-mul_cancel l left.1) pos_d)

  pub product_ratio : (s : Bool) (t : Result Fraction NumFault) → IsRatio (signed s (a / l * (c / r))) (pos (b / r * (d / l))) t → IsRatio (signed s (a * c)) (pos (b * d)) t
  product_ratio s t = IsRatio-scaled s (a / l * (c / r)) (b / r * (d / l)) (a * c) (b * d) t bottom_pos (product_pos b d pos_b pos_d) product_equal

  -- what no number is in lowest terms, no number is
  pub product_none : (s : Bool) → IsNoNumber (signed s (a / l * (c / r))) (pos (b / r * (d / l))) → IsNoNumber (signed s (a * c)) (pos (b * d))
  product_none s h n i e =
      h n i (same_value (signed s (a * c)) (pos (b * d)) (signed s (a / l * (c / r))) (pos (b / r * (d / l))) (pos n.denominator) n.numerator (pos_ne _ (product_pos b d pos_b pos_d))
      (signed-*ℤ s _ _ ∙ ap (signed s) (sym product_equal) ∙ sym (signed-*ℤ s _ _)) e)

  pub product_top : (s : Bool) → 2 ^ 127 ≤ a / l * (c / r) → IsNoNumber (signed s (a * c)) (pos (b * d))
  product_top s h = product_none s (top_too_great s _ _ bottom_pos product_coprime h)

  pub product_bottom : (s : Bool) → 2 ^ 63 ≤ b / r * (d / l) → IsNoNumber (signed s (a * c)) (pos (b * d))
  product_bottom s h = product_none s (bottom_too_great s _ _ bottom_pos product_coprime h)
