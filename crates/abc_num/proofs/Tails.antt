-- The fraction that decimals spell, from the last one on.
use Rattle.std.proofs.Common.{◌≡◌, ℕ, suc, ◌+◌, ◌-◌, ◌*◌, ◌/◌, ◌<◌, ◌≤◌, ◌^◌, List, ◌∷◌, ◌++◌, length, get_or, take, drop, sym, ap, ◌∙◌, subst, arith, drop-cons, length-append, false, Result, Err, pos}
use Rattle.std.specs.Prelude.{unsigned_abs}
use Rattle.std.specs.Int.{IsGcd, ◌∣◌}
use Rattle.std.proofs.Math.Nat.{div-mul_cancel, pow-suc, mul-le-mul_left, mul-le-mul_right, eq_of_mul-eq-mul_right, lt_of_mul-lt-mul_right, dvd-mul_left, dvd-add_iff_right, mul-dvd-mul_right, dvd_of_mul-dvd-mul_right, le_of_dvd}
use Rattle.std.proofs.lemmas.Nat.{pow-add}
use Rattle.std.proofs.lemmas.Nat.Gcd.{IsGcd-swap}
use Rattle.std.proofs.lemmas.List.{take-append-drop}
use Rattle.abc_num.specs.Number.{Fraction}
use Rattle.abc_num.specs.declared.number.NumFault.{NumFault}
use Rattle.abc_num.specs.declared.number.NumFault.TheVariants.{Overflow}
use Rattle.abc_num.specs.Ratio.{IsRatio, IsNoNumber}
use Rattle.abc_num.specs.Literal.{IsDigit, SpellsFraction, digits_value}
use Rattle.abc_num.proofs.Divisors.{gauss, coprime_more}
use Rattle.abc_num.proofs.Ratios.{IsRatio-none, IsRatio-scaled}
use Rattle.abc_num.proofs.Digits.{digits_value-append, power-positive}
use Rattle.abc_num.proofs.LowestTerms.{divisor_pos, parts_coprime, number_lowest, bounds, sizes, top_too_great}

-- one decimal more in front, before its fraction is reduced
pub tail_value : (c : ℕ) (cs : List ℕ) (x y : ℕ) → SpellsFraction cs x y → ((c - 48) * y + x) * 10 ^ length (c ∷ cs) ≡ digits_value (c ∷ cs) * (10 * y)
tail_value c cs x y i =
    let p = pow-suc 10 (length cs) in
    let q = ap (λ z. z * 10) i.value in
    let r = ap (λ z. ((c - 48) * y + x) * z) p in
    omega (arith, q, r)

pub tail_less : (c : ℕ) (cs : List ℕ) (x y : ℕ) → SpellsFraction cs x y → IsDigit c → (c - 48) * y + x < 10 * y
tail_less c cs x y i d =
    let p = mul-le-mul_right y (let k : c - 48 ≤ 9 = omega (arith, d) in k) in
    omega (arith, p, i.proper)

-- one decimal more in front, reduced
module _ (c : ℕ) (cs : List ℕ) (x y g : ℕ) (i : SpellsFraction cs x y) (d : IsDigit c) (k : IsGcd ((c - 48) * y + x) (10 * y) g) where
  tail_positive : 0 < 10 * y
  tail_positive = let less = tail_less c cs x y i d in omega arith

  pub tail_divisor : 0 < g
  tail_divisor = divisor_pos ((c - 48) * y + x) (10 * y) g tail_positive k

  pub tail_lowest : IsGcd (((c - 48) * y + x) / g) (10 * y / g) 1
  tail_lowest = parts_coprime ((c - 48) * y + x) (10 * y) g tail_positive k

  pub tail_equal : (((c - 48) * y + x) / g) * 10 ^ length (c ∷ cs) ≡ digits_value (c ∷ cs) * (10 * y / g)
  tail_equal =
      let top = div-mul_cancel g k.0 in
      let bottom = div-mul_cancel g k.1 in
      let wide : ((((c - 48) * y + x) / g) * 10 ^ length (c ∷ cs)) * g ≡ (digits_value (c ∷ cs) * (10 * y / g)) * g =
      omega (arith, tail_value c cs x y i, ap (λ z. z * 10 ^ length (c ∷ cs)) top, ap (λ z. digits_value (c ∷ cs) * z) bottom) in
      eq_of_mul-eq-mul_right g tail_divisor _ _ wide

  pub tail_more : 10 * y / g < 2 ^ 63 → SpellsFraction (c ∷ cs) (((c - 48) * y + x) / g) (10 * y / g)
  tail_more small =
      let less = tail_less c cs x y i d in
      let top = div-mul_cancel g k.0 in
      let bottom = div-mul_cancel g k.1 in record {
        lowest = tail_lowest;
        proper = lt_of_mul-lt-mul_right g (let z : (((c - 48) * y + x) / g) * g < (10 * y / g) * g = omega (arith, top, bottom, less) in z);
        bottom_fits = small;
        value = tail_equal;
      }

-- the decimals from one place earlier
pub drop_before : (b : List ℕ) (at : ℕ) → 0 < at → at ≤ length b → drop (at - 1) b ≡ get_or b (at - 1) 0 ∷ drop at b
drop_before b at h k =
    let next : suc (at - 1) ≡ at = omega arith in
    drop-cons b (at - 1) 0 (omega arith) ∙ ap (λ z. get_or b (at - 1) 0 ∷ drop z b) next

-- a number that ends in a tail with the lowest terms x / y has a denominator that y divides
tail_divides : (front tail : List ℕ) (whole x y : ℕ) (n : Fraction) → IsGcd x y 1 → x * 10 ^ length tail ≡ digits_value tail * y → unsigned_abs n.numerator * 10 ^ length (front ++ tail) ≡ (whole * 10 ^ length (front ++ tail) + digits_value (front ++ tail)) * n.denominator → y ∣ n.denominator
tail_divides front tail whole x y n i e f =
    let t = 10 ^ length tail in
    let v = n.denominator in
    let value = digits_value tail in
    let size : 10 ^ length (front ++ tail) ≡ 10 ^ length front * t = ap (λ k. 10 ^ k) (length-append front tail) ∙ pow-add 10 (length front) (length tail) in
    let digits = digits_value-append front tail in
    let rest = whole * 10 ^ length front + digits_value front in
    let sides : (unsigned_abs n.numerator * 10 ^ length front) * t ≡ (rest * v) * t + value * v =
    (let a : (unsigned_abs n.numerator * 10 ^ length front) * t ≡ unsigned_abs n.numerator * (10 ^ length front * t) = omega arith in a)
    ∙ ap (λ z. unsigned_abs n.numerator * z) (sym size)
    ∙ f
    ∙ ap (λ z. (whole * z + digits_value (front ++ tail)) * v) size
    ∙ ap (λ z. (whole * (10 ^ length front * t) + z) * v) digits
    ∙ (let a : (whole * (10 ^ length front * t) + (digits_value front * t + value)) * v ≡ (rest * v) * t + value * v = omega arith in a) in
    let part : t ∣ (value * v) = (dvd-add_iff_right t (dvd-mul_left t (rest * v))).1 (subst (λ z. t ∣ z) sides (dvd-mul_left t (unsigned_abs n.numerator * 10 ^ length front))) in
    let wide : (t * y) ∣ ((value * v) * y) = mul-dvd-mul_right t part y in
    let left : t * y ≡ y * t = omega arith in
    let right : (value * v) * y ≡ (x * v) * t = omega (arith, ap (λ z. z * v) e) in
    let turned : (y * t) ∣ ((x * v) * t) = subst (λ z. (y * t) ∣ z) right (subst (λ z. z ∣ ((value * v) * y)) left wide) in
    let product : y ∣ (x * v) = dvd_of_mul-dvd-mul_right y (power-positive 10 (length tail) (omega arith)) turned in
    gauss y x v (IsGcd-swap x y 1 i) product

-- where that is too great for a denominator, no number ends in the tail
pub tail_none : (b : List ℕ) (at x y whole : ℕ) → IsGcd x y 1 → x * 10 ^ length (drop at b) ≡ digits_value (drop at b) * y → 2 ^ 63 ≤ y → IsNoNumber (pos (whole * 10 ^ length b + digits_value b)) (pos (10 ^ length b))
tail_none b at x y whole i e h n j f =
    let same : unsigned_abs n.numerator * 10 ^ length b ≡ (whole * 10 ^ length b + digits_value b) * n.denominator = sizes false (whole * 10 ^ length b + digits_value b) (10 ^ length b) n f in
    let P : List ℕ → Type 0 = λ z. unsigned_abs n.numerator * 10 ^ length z ≡ (whole * 10 ^ length z + digits_value z) * n.denominator in
    let d = tail_divides (take at b) (drop at b) whole x y n i e (subst P (sym (take-append-drop at b)) same) in
    let low = number_lowest n j in
    let most = le_of_dvd low.1 d in
    absurd (omega (arith, most, (bounds n j).1))

-- a whole number in front of the decimals
pub whole_and_tail : (b : List ℕ) (x y w : ℕ) (r : Result Fraction NumFault) → SpellsFraction b x y → IsRatio (pos (w * y + x)) (pos y) r → IsRatio (pos (w * 10 ^ length b + digits_value b)) (pos (10 ^ length b)) r
whole_and_tail b x y w r i =
    IsRatio-scaled false (w * y + x) y (w * 10 ^ length b + digits_value b) (10 ^ length b) r (let p = i.proper in omega arith) (power-positive 10 (length b) (omega arith)) (let v = i.value in omega (arith, v))

pub whole_too_great : (b : List ℕ) (x y w : ℕ) → SpellsFraction b x y → 2 ^ 127 ≤ w * y + x → IsRatio (pos (w * 10 ^ length b + digits_value b)) (pos (10 ^ length b)) (Err Overflow)
whole_too_great b x y w i h =
    whole_and_tail b x y w (Err Overflow) i
    (IsRatio-none (pos (w * y + x)) (pos y) (top_too_great false (w * y + x) y (let p = i.proper in omega arith) (coprime_more w x y i.lowest) h))

pub whole_size : (w x y : ℕ) → x < y → w ≤ w * y + x
whole_size w x y h = let p = mul-le-mul_left w (let k : 1 ≤ y = omega arith in k) in omega (arith, p)
