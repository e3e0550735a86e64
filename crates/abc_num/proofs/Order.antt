-- Comparing numbers without leaving 128 bits.
use Rattle.std.proofs.Common.{◌≡◌, ◌≢◌, ℕ, zero, suc, ◌+◌, ◌<◌, ◌≤◌, ◌^◌, ◌-◌, sym, ap, ◌∙◌, arith, ℤ, pos, negsuc, ◌*ℤ◌, inl, inr, Some, nat_eq, true, false}
use Rattle.std.specs.Prelude.{◌<ℤ◌, unsigned_abs}
use Rattle.std.specs.declared.cmp.Ordering.TheVariants.{Less, Equal, Greater}
use Rattle.std.specs.Ordering.{int_cmp}
use Rattle.std.specs.Int.{w128}
use Rattle.std.specs.Int.RustNames.{FitsSigned}
use Rattle.std.proofs.lemmas.Int.{ints, by_lt_z, fits_signed_mul}
use Rattle.std.proofs.lemmas.Bool.{cases_eq}
use Rattle.std.proofs.lemmas.Bool.Decides.{nat_tests}
use borrow.Author.Differences.{up, down}
use Rattle.std.proofs.Math.Nat.{mul-le-mul_left}
use Rattle.abc_num.specs.Number.{Fraction, IsNumber, whole_of, num_cmp}

pub is_less : (x y : ℤ) → x <ℤ y → int_cmp x y ≡ Less
is_less x y h = grind (arith, ints)

pub is_greater : (x y : ℤ) → y <ℤ x → int_cmp x y ≡ Greater
is_greater x y h = grind (arith, ints)

pub is_equal : (x y : ℤ) → x ≡ y → int_cmp x y ≡ Equal
is_equal x y h = grind (arith, ints)

pub scale : (x y : ℤ) (n : ℕ) → x <ℤ y → 0 < n → (x *ℤ pos n) <ℤ (y *ℤ pos n)
scale x y n h p =
    let e : up x + down y + 1 ≤ up y + down x = omega (arith, ints) in
    let f = mul-le-mul_left n e in
    omega (arith, ints, f)

-- a common positive factor keeps the order
int_cmp-scaled : (x y : ℤ) (n : ℕ) → 0 < n → int_cmp x y ≡ int_cmp (x *ℤ pos n) (y *ℤ pos n)
int_cmp-scaled x y n p =
    by_lt_z x y (λ h. is_less x y h ∙ sym (is_less (x *ℤ pos n) (y *ℤ pos n) (scale x y n h p)))
    (λ h. by_lt_z y x (λ k. is_greater x y k ∙ sym (is_greater (x *ℤ pos n) (y *ℤ pos n) (scale y x n k p)))
    (λ k. let e : x ≡ y = omega (arith, ints) in is_equal x y e ∙ sym (is_equal (x *ℤ pos n) (y *ℤ pos n) (ap (λ z. z *ℤ pos n) e))))

pub num_cmp-same_denominator : (x y : Fraction) → 0 < x.denominator → x.denominator ≡ y.denominator → int_cmp x.numerator y.numerator ≡ num_cmp x y
num_cmp-same_denominator x y h e =
    int_cmp-scaled x.numerator y.numerator x.denominator h ∙ ap (λ d. int_cmp (x.numerator *ℤ pos d) (y.numerator *ℤ pos x.denominator)) e

-- a is further from 0 than b, and d positive
far : (a b : ℤ) (d : ℕ) → unsigned_abs b < unsigned_abs a → 0 < d → int_cmp a b ≡ int_cmp (a *ℤ pos d) (b *ℤ pos 1)
far (pos a) b (suc d) h p =
    let k : b <ℤ pos a = omega (arith, ints) in
    let l : (b *ℤ pos 1) <ℤ (pos a *ℤ pos (suc d)) = omega (arith, ints) in
    is_greater (pos a) b k ∙ sym (is_greater _ _ l)
far (negsuc a) b (suc d) h p =
    let k : negsuc a <ℤ b = omega (arith, ints) in
    let l : (negsuc a *ℤ pos (suc d)) <ℤ (b *ℤ pos 1) = omega (arith, ints) in
    is_less (negsuc a) b k ∙ sym (is_less _ _ l)
far a b zero h p = absurd (omega arith)

far_right : (a b : ℤ) (d : ℕ) → unsigned_abs a < unsigned_abs b → 0 < d → int_cmp a b ≡ int_cmp (a *ℤ pos 1) (b *ℤ pos d)
far_right a (pos b) (suc d) h p =
    let k : a <ℤ pos b = omega (arith, ints) in
    let l : (a *ℤ pos 1) <ℤ (pos b *ℤ pos (suc d)) = omega (arith, ints) in
    is_less a (pos b) k ∙ sym (is_less _ _ l)
far_right a (negsuc b) (suc d) h p =
    let k : negsuc b <ℤ a = omega (arith, ints) in
    let l : (negsuc b *ℤ pos (suc d)) <ℤ (a *ℤ pos 1) = omega (arith, ints) in
    is_greater a (negsuc b) k ∙ sym (is_greater _ _ l)
far_right a b zero h p = absurd (omega arith)

-- a wide numerator decides against a number of another denominator
pub num_cmp-wide : (x y : Fraction) → IsNumber x → IsNumber y → x.denominator ≢ y.denominator → 2 ^ 63 ≤ unsigned_abs x.numerator → int_cmp x.numerator y.numerator ≡ num_cmp x y
unfolding IsNumber
num_cmp-wide x y (inl i) (inl j) n h = absurd (n (i.0 ∙ sym j.0))
num_cmp-wide x y (inl i) (inr j) n h =
    far x.numerator y.numerator y.denominator (omega arith) (omega arith) ∙ ap (λ d. int_cmp (x.numerator *ℤ pos y.denominator) (y.numerator *ℤ pos d)) (sym i.0)
num_cmp-wide x y (inr i) j n h = absurd (omega (arith, i.2))

pub num_cmp-wide_right : (x y : Fraction) → IsNumber x → IsNumber y → x.denominator ≢ y.denominator → 2 ^ 63 ≤ unsigned_abs y.numerator → int_cmp x.numerator y.numerator ≡ num_cmp x y
unfolding IsNumber
num_cmp-wide_right x y (inl i) (inl j) n h = absurd (n (i.0 ∙ sym j.0))
num_cmp-wide_right x y (inr i) (inl j) n h =
    far_right x.numerator y.numerator x.denominator (omega arith) (omega arith) ∙ ap (λ d. int_cmp (x.numerator *ℤ pos d) (y.numerator *ℤ pos x.denominator)) (sym j.0)
num_cmp-wide_right x y i (inr j) n h = absurd (omega (arith, j.2))

pub denominator-positive : (x : Fraction) → IsNumber x → 0 < x.denominator
unfolding IsNumber
denominator-positive x (inl i) = omega (arith, i.0)
denominator-positive x (inr i) = omega (arith, i.0)

pub product_fits : (x : ℤ) (y : ℤ) (d : ℕ) → unsigned_abs x < 2 ^ 63 → d < 2 ^ 64 → y ≡ pos d → FitsSigned w128 (x *ℤ y)
product_fits x y d h k e = let a : unsigned_abs y ≡ d = ap unsigned_abs e in fits_signed_mul w128 x y (2 ^ 63) (2 ^ 64 - 1) (omega arith) (omega arith) (omega arith)

-- what `to_whole` says where it answers
pub whole_of-some : (f : Fraction) (n : ℤ) → Some n ≡ whole_of f → (f.denominator ≡ 1) × (n ≡ f.numerator)
whole_of-some f n e = elim (cases_eq f.denominator 1) [
  | inl h ↦ (let t : nat_eq f.denominator 1 ≡ true = grind (arith, nat_tests) in let k = rw t at e in (h, cc))
  | inr h ↦ (let t : nat_eq f.denominator 1 ≡ false = grind (arith, nat_tests) in let k = rw t at e in absurd (cc))
]
