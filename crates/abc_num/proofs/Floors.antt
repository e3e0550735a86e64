-- The floor of a quotient and what is left, by sign and size.
use Rattle.std.proofs.Common.{◌≡◌, ◌≢◌, ℕ, suc, zero, ◌+◌, ◌-◌, ◌*◌, ◌/◌, ◌%◌, ◌<◌, refl, sym, ap, ◌∙◌, arith, ℤ, pos, negsuc, neg_ℤ, ◌*ℤ◌, ◌-ℤ◌, Bool, true, false}
use mathlib.Core.Bool.{not, beq}
use Rattle.std.proofs.lemmas.Int.{ints}
use Rattle.std.proofs.Math.IntN.{*ℤ-negsuc}
use Rattle.std.proofs.lemmas.Nat.{div-mul-add}
use Rattle.std.proofs.Math.Nat.{div-add-mod, mod-lt}
use Rattle.abc_num.specs.Number.{signed}
use Rattle.abc_num.specs.Rounding.{floor_of, floor_mod}
use Rattle.abc_num.proofs.LowestTerms.{signed-*ℤ, signed-not}

pub divided : (a b q : ℕ) → a / b ≡ q → a ≡ q * b + a % b
divided a b q e = omega (arith, div-add-mod a b, ap (λ z. b * z) e)

-- a whole quotient
pub floor-whole : (s : Bool) (a b : ℕ) → 0 < b → a % b ≡ 0 → floor_of (signed s a) b ≡ signed s (a / b)
floor-whole false a b h e = refl
floor-whole true zero b h e = let z : 0 / b ≡ 0 = ap (λ x. x / b) (let k : 0 ≡ 0 * b + 0 = omega arith in k) ∙ div-mul-add 0 b 0 h in ap pos z ∙ ap (λ x. neg_ℤ (pos x)) (sym z)
floor-whole true (suc n) b h e = go (suc n / b) refl
  where
    go : (q : ℕ) → suc n / b ≡ q → negsuc (n / b) ≡ neg_ℤ (pos (suc n / b))
    go zero k = absurd (omega (arith, divided (suc n) b zero k, e))
    go (suc p) k =
        let whole = divided (suc n) b (suc p) k in
        let n_is : n ≡ p * b + (b - 1) = omega (arith, whole, e) in
        let q : n / b ≡ p = ap (λ x. x / b) n_is ∙ div-mul-add p b (b - 1) (omega arith) in
        ap negsuc q ∙ ap (λ x. neg_ℤ (pos x)) (sym k)

-- a negative quotient that is not whole
pub floor-below : (a b : ℕ) → 0 < b → a % b ≢ 0 → floor_of (signed true a) b ≡ signed true (a / b + 1)
floor-below zero b h e = absurd (e (let z : 0 % b ≡ 0 = omega (arith, div-add-mod 0 b) in z))
floor-below (suc n) b h e =
    let q = suc n / b in
    let whole = divided (suc n) b q refl in
    let least = mod-lt (suc n) h in
    let n_is : n ≡ q * b + (suc n % b - 1) = omega (arith, whole, e) in
    let same : n / b ≡ q = ap (λ x. x / b) n_is ∙ div-mul-add q b (suc n % b - 1) (omega arith) in
    ap negsuc same ∙ (let k : negsuc q ≡ neg_ℤ (pos (q + 1)) = omega (arith, ints) in k)

-- what is left by a positive divisor
mod-whole : (s : Bool) (a b : ℕ) → 0 < b → a % b ≡ 0 → floor_mod (signed s a) (pos b) ≡ pos 0
mod-whole s a b h e =
    let whole = divided a b (a / b) refl in
    let sizes : a / b * b ≡ a = omega (arith, whole, e) in
    ap (λ f. signed s a -ℤ f *ℤ pos b) (floor-whole s a b h e) ∙ ap (λ z. signed s a -ℤ z) (signed-*ℤ s (a / b) b ∙ ap (signed s) sizes) ∙ (let k : signed s a -ℤ signed s a ≡ pos 0 = omega (arith, ints) in k)

mod-positive : (a b : ℕ) → floor_mod (pos a) (pos b) ≡ pos (a % b)
mod-positive a b = let whole = divided a b (a / b) refl in omega (arith, ints, whole)

mod-negative : (a b : ℕ) → 0 < b → a % b ≢ 0 → floor_mod (signed true a) (pos b) ≡ pos (b - a % b)
mod-negative a b h e =
    let whole = divided a b (a / b) refl in
    let least = mod-lt a h in
    let sizes : (a / b + 1) * b ≡ a + (b - a % b) = omega (arith, whole) in
    ap (λ f. signed true a -ℤ f *ℤ pos b) (floor-below a b h e) ∙ ap (λ z. signed true a -ℤ z) (signed-*ℤ true (a / b + 1) b ∙ ap (signed true) sizes) ∙ (let k : signed true a -ℤ signed true (a + (b - a % b)) ≡ pos (b - a % b) = omega (arith, ints) in k)

-- both signs turned
mod-turned : (a : ℤ) (k : ℕ) → floor_mod a (negsuc k) ≡ neg_ℤ (floor_mod (neg_ℤ a) (pos (suc k)))
mod-turned a k = let e = *ℤ-negsuc (floor_of (neg_ℤ a) (suc k)) k in omega (arith, ints, e)

pub floor_mod-zero : (s t : Bool) (a b : ℕ) → 0 < b → a % b ≡ 0 → floor_mod (signed s a) (signed t b) ≡ signed t 0
floor_mod-zero s false a b h e = mod-whole s a b h e
floor_mod-zero s true a zero h e = absurd (omega arith)
floor_mod-zero s true a (suc k) h e =
    mod-turned (signed s a) k ∙ ap (λ z. neg_ℤ (floor_mod z (pos (suc k)))) (sym (signed-not s a)) ∙ ap neg_ℤ (mod-whole (not s) a (suc k) h e)

pub floor_mod-same : (s : Bool) (a b : ℕ) → 0 < b → floor_mod (signed s a) (signed s b) ≡ signed s (a % b)
floor_mod-same false a b h = mod-positive a b
floor_mod-same true a zero h = absurd (omega arith)
floor_mod-same true a (suc k) h =
    mod-turned (signed true a) k ∙ ap (λ z. neg_ℤ (floor_mod z (pos (suc k)))) (sym (signed-not true a)) ∙ ap neg_ℤ (mod-positive a (suc k))

pub floor_mod-apart : (s t : Bool) (a b : ℕ) → beq s t ≡ false → 0 < b → a % b ≢ 0 → floor_mod (signed s a) (signed t b) ≡ signed t (b - a % b)
floor_mod-apart false false a b n h e = cc
floor_mod-apart true true a b n h e = cc
floor_mod-apart true false a b n h e = mod-negative a b h e
floor_mod-apart false true a zero n h e = absurd (omega arith)
floor_mod-apart false true a (suc k) n h e = mod-turned (pos a) k ∙ ap neg_ℤ (mod-negative a (suc k) h e)
