-- Rounding a number to a ten, a hundred and so on.
use Rattle.std.proofs.Common.{◌≡◌, ℕ, ◌+◌, ◌-◌, ◌*◌, ◌/◌, ◌%◌, ◌<◌, ◌≤◌, ◌^◌, refl, sym, ap, ◌∙◌, subst, arith, pos, ◌*ℤ◌, Bool, true, false, inl, inr, nat_lt, nat_le}
use Rattle.std.specs.Prelude.{if◌then◌else◌}
use lib.Dec.{eqb}
use mir.Val.{bool_byte}
use Rattle.std.proofs.lemmas.Bool.{cases_eq, cases_lt}
use Rattle.std.proofs.lemmas.Bool.Decides.{nat_tests}
use Rattle.std.proofs.Math.Nat.{mod-lt, mul-le-mul_right}
use Rattle.abc_num.specs.Number.{signed}
use Rattle.abc_num.specs.Rounding.{nearest_of, away_of}
use Rattle.abc_num.proofs.Floors.{divided}
use Rattle.abc_num.proofs.LowestTerms.{signed-*ℤ}
use Rattle.abc_num.proofs.Nearest.{nearest-parts}
use Rattle.abc_num.proofs.Places.{byte_of}
use Rattle.abc_num.proofs.Powers.{power-less}

-- a power of ten is even
pub even_power : (n : ℕ) → 0 < n → 10 ^ n ≡ 2 * (5 * 10 ^ (n - 1))
even_power n h = let p = power-less 10 n h in omega (arith, p)

-- half of t whole parts with a fraction f / b behind them
module _ (b h w f : ℕ) (f_less : f < b) where
  -- fewer whole parts than half
  under : 2 * w < 2 * h → 2 * (w * b + f) < b * (2 * h)
  under k = let p = mul-le-mul_right b (let z : w + 1 ≤ h = omega arith in z) in omega (arith, p)

  over : 2 * h ≤ 2 * w → b * (2 * h) ≤ 2 * (w * b + f)
  over k = let p = mul-le-mul_right b (let z : h ≤ w = omega arith in z) in omega (arith, p)

  over_more : 2 * h ≤ 2 * w → 0 < f → b * (2 * h) < 2 * (w * b + f)
  over_more k m = let p = mul-le-mul_right b (let z : h ≤ w = omega arith in z) in omega (arith, p)

  over_strict : 2 * h < 2 * w → b * (2 * h) < 2 * (w * b + f)
  over_strict k = let p = mul-le-mul_right b (let z : h + 1 ≤ w = omega arith in z) in omega (arith, p)

  under_exact : 2 * w ≤ 2 * h → f ≡ 0 → 2 * (w * b + f) ≤ b * (2 * h)
  under_exact k e = let p = mul-le-mul_right b (let z : w ≤ h = omega arith in z) in omega (arith, p)

-- the test on whole parts is the test on the number
away_positive : (b t h w f : ℕ) → t ≡ 2 * h → f < b → away_of false (w * b + f) (b * t) ≡ away_of false w t
away_positive b t h w f e k =
    subst (λ z. nat_le (b * z) (2 * (w * b + f)) ≡ nat_le z (2 * w)) (sym e) (elim (cases_lt (2 * w) (2 * h)) [
      | inl l ↦ (
          let p = under b h w f k l in
          let x : nat_le (b * (2 * h)) (2 * (w * b + f)) ≡ false = grind (arith, nat_tests) in
          let y : nat_le (2 * h) (2 * w) ≡ false = grind (arith, nat_tests) in
          x ∙ sym y
          )
      | inr l ↦ (
          let p = over b h w f k l in
          let x : nat_le (b * (2 * h)) (2 * (w * b + f)) ≡ true = grind (arith, nat_tests) in
          let y : nat_le (2 * h) (2 * w) ≡ true = grind (arith, nat_tests) in
          x ∙ sym y
          )
    ])

away_exact : (b t h w f : ℕ) → t ≡ 2 * h → f < b → f ≡ 0 → away_of true (w * b + f) (b * t) ≡ away_of true w t
away_exact b t h w f e k zero_f =
    subst (λ z. nat_lt (b * z) (2 * (w * b + f)) ≡ nat_lt z (2 * w)) (sym e) (elim (cases_lt (2 * h) (2 * w)) [
      | inl l ↦ (
          let p = over_strict b h w f k l in
          let x : nat_lt (b * (2 * h)) (2 * (w * b + f)) ≡ true = grind (arith, nat_tests) in
          let y : nat_lt (2 * h) (2 * w) ≡ true = grind (arith, nat_tests) in
          x ∙ sym y
          )
      | inr l ↦ (
          let p = under_exact b h w f k l zero_f in
          let x : nat_lt (b * (2 * h)) (2 * (w * b + f)) ≡ false = grind (arith, nat_tests) in
          let y : nat_lt (2 * h) (2 * w) ≡ false = grind (arith, nat_tests) in
          x ∙ sym y
          )
    ])

away_more : (b t h w f : ℕ) → t ≡ 2 * h → f < b → 0 < f → away_of true (w * b + f) (b * t) ≡ away_of false w t
away_more b t h w f e k m =
    subst (λ z. nat_lt (b * z) (2 * (w * b + f)) ≡ nat_le z (2 * w)) (sym e) (elim (cases_lt (2 * w) (2 * h)) [
      | inl l ↦ (
          let p = under b h w f k l in
          let x : nat_lt (b * (2 * h)) (2 * (w * b + f)) ≡ false = grind (arith, nat_tests) in
          let y : nat_le (2 * h) (2 * w) ≡ false = grind (arith, nat_tests) in
          x ∙ sym y
          )
      | inr l ↦ (
          let p = over_more b h w f k l m in
          let x : nat_lt (b * (2 * h)) (2 * (w * b + f)) ≡ true = grind (arith, nat_tests) in
          let y : nat_le (2 * h) (2 * w) ≡ true = grind (arith, nat_tests) in
          x ∙ sym y
          )
    ])

-- the same, by the sign and whether a fraction is left
pub away_negative : (s u : Bool) (b t h w f : ℕ) → t ≡ 2 * h → f < b → s ≡ true → u ≡ eqb f 0 → away_of s (w * b + f) (b * t) ≡ away_of u w t
away_negative false u b t h w f e k n x = cc
away_negative true u b t h w f e k n x = elim (cases_eq f 0) [
  | inl z ↦ (let y : eqb f 0 ≡ true = grind (arith, nat_tests) in away_exact b t h w f e k z ∙ ap (λ v. away_of v w t) (sym (x ∙ y)))
  | inr z ↦ (let y : eqb f 0 ≡ false = grind (arith, nat_tests) in away_more b t h w f e k (omega arith) ∙ ap (λ v. away_of v w t) (sym (x ∙ y)))
]

pub away_otherwise : (s u : Bool) (b t h w f : ℕ) → t ≡ 2 * h → f < b → s ≡ false → u ≡ s → away_of s (w * b + f) (b * t) ≡ away_of u w t
away_otherwise true u b t h w f e k n x = cc
away_otherwise false true b t h w f e k n x = cc
away_otherwise false false b t h w f e k n x = away_positive b t h w f e k

-- the parts of a number over b * t
tens_parts : (a b t : ℕ) → 0 < b → 0 < t → (a ≡ a / b / t * (b * t) + (a / b % t * b + a % b)) × (a / b % t * b + a % b < b * t)
tens_parts a b t h k =
    let w = a / b in
    let whole = divided a b w refl in
    let tens = divided w t (w / t) refl in
    let few = mod-lt w k in
    let less = mod-lt a h in
    let p = mul-le-mul_right b (let z : w % t + 1 ≤ t = omega arith in z) in
    (omega (arith, whole, ap (λ z. z * b) tens), omega (arith, p, less))

-- to the nearest multiple of t, where the test on whole parts says whether it is further from 0
pub round_tens : (s u : Bool) (a b t : ℕ) → 0 < b → 0 < t → away_of s (a / b % t * b + a % b) (b * t) ≡ u → nearest_of (signed s a) (b * t) *ℤ pos t ≡ signed s ((a / b / t + bool_byte u) * t)
round_tens s u a b t h k e =
    let p = tens_parts a b t h k in
    ap (λ z. z *ℤ pos t) (nearest-parts s a (b * t) (a / b / t) (a / b % t * b + a % b) p.0 p.1 ∙ ap (λ v. signed s (a / b / t + (if v then 1 else 0))) e ∙ ap (λ v. signed s (a / b / t + v)) (byte_of u))
    ∙ signed-*ℤ s (a / b / t + bool_byte u) t

-- a number below half of t is rounded to 0
pub round_away : (s : Bool) (a b t : ℕ) → 0 < b → 2 * a < t → nearest_of (signed s a) (b * t) *ℤ pos t ≡ pos 0
round_away s a b t h k =
    let wide : t ≤ b * t = (let p = mul-le-mul_right t (let z : 1 ≤ b = omega arith in z) in omega (arith, p)) in
    let near : away_of s a (b * t) ≡ false = small s in
    ap (λ z. z *ℤ pos t) (nearest-parts s a (b * t) 0 a (omega arith) (omega arith) ∙ ap (λ v. signed s (0 + (if v then 1 else 0))) near ∙ nothing s) ∙ ap pos (let z : 0 * t ≡ 0 = omega arith in z)
  where
    nothing : (z : Bool) → signed z (0 + 0) ≡ pos 0
    nothing true = refl
    nothing false = refl

    small : (z : Bool) → away_of z a (b * t) ≡ false
    small false = let p = mul-le-mul_right t (let z : 1 ≤ b = omega arith in z) in grind (arith, nat_tests, p)
    small true = let p = mul-le-mul_right t (let z : 1 ≤ b = omega arith in z) in grind (arith, nat_tests, p)
