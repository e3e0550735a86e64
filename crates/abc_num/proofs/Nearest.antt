-- The nearest whole number, by sign and size.
use Rattle.std.proofs.Common.{◌≡◌, ℕ, suc, zero, ◌+◌, ◌-◌, ◌*◌, ◌/◌, ◌%◌, ◌<◌, ◌≤◌, ◌^◌, refl, ap, ◌∙◌, arith, rules, pos, negsuc, neg_ℤ, ◌*ℤ◌, ◌+ℤ◌, Bool, true, false, inl, inr, nat_lt, nat_le}
use Rattle.std.specs.Prelude.{if◌then◌else◌, IsTrue}
use Rattle.std.proofs.lemmas.Int.{ints}
use Rattle.std.proofs.lemmas.Bool.{cases_eq, cases_lt}
use mathlib.Core.Bool.{not}
use lib.Dec.{eqb}
use Rattle.std.proofs.lemmas.Bool.Decides.{nat_tests}
use Rattle.std.proofs.lemmas.Nat.{div-mul-add}
use Rattle.std.proofs.Math.Nat.{mod-lt, div-le_self}
use mir.Val.{bool_byte}
use Rattle.abc_num.specs.Number.{signed}
use Rattle.abc_num.specs.Rounding.{floor_of, nearest_of, away_of}
use Rattle.abc_num.proofs.Floors.{divided, floor-whole, floor-below}

-- a quotient by its parts
quotient : (n w q r : ℕ) → n ≡ q * w + r → r < w → n / w ≡ q
quotient n w q r e h = ap (λ x. x / w) e ∙ div-mul-add q w r h

-- ---- a positive number a with the quotient q and the rest r
above-away : (a b q r : ℕ) → a ≡ q * b + r → r < b → b ≤ 2 * r → (2 * a + b) / (2 * b) ≡ q + 1
above-away a b q r e h k = quotient (2 * a + b) (2 * b) (q + 1) (2 * r - b) (omega (arith, e)) (omega arith)

above-near : (a b q r : ℕ) → a ≡ q * b + r → r < b → 2 * r < b → (2 * a + b) / (2 * b) ≡ q
above-near a b q r e h k = quotient (2 * a + b) (2 * b) q (2 * r + b) (omega (arith, e)) (omega arith)

-- ---- a negative one
below-away : (a b q r : ℕ) → a ≡ q * b + r → r < b → b < 2 * r → floor_of (pos 2 *ℤ neg_ℤ (pos a) +ℤ pos b) (2 * b) ≡ neg_ℤ (pos (q + 1))
below-away a b q r e h k =
    let n = 2 * a - b - 1 in
    let size : n ≡ q * (2 * b) + (2 * r - b - 1) = omega (arith, e) in
    let least : b < 2 * a = omega (arith, e) in
    let turned : pos 2 *ℤ neg_ℤ (pos a) +ℤ pos b ≡ negsuc n = omega (arith, ints) in
    let down = quotient n (2 * b) q (2 * r - b - 1) size (omega arith) in
    ap (λ z. floor_of z (2 * b)) turned ∙ ap negsuc down ∙ (let t : negsuc q ≡ neg_ℤ (pos (q + 1)) = omega (arith, ints) in t)

below-zero : (a b : ℕ) → a < b → 2 * a ≤ b → floor_of (pos 2 *ℤ neg_ℤ (pos a) +ℤ pos b) (2 * b) ≡ pos 0
below-zero a b h k =
    let turned : pos 2 *ℤ neg_ℤ (pos a) +ℤ pos b ≡ pos (b - 2 * a) = omega (arith, ints) in
    ap (λ z. floor_of z (2 * b)) turned ∙ ap pos (quotient (b - 2 * a) (2 * b) 0 (b - 2 * a) (omega arith) (omega arith))

below-near : (a b p r : ℕ) → a ≡ suc p * b + r → r < b → 2 * r ≤ b → floor_of (pos 2 *ℤ neg_ℤ (pos a) +ℤ pos b) (2 * b) ≡ negsuc p
below-near a b p r e h k =
    let n = 2 * a - b - 1 in
    let size : n ≡ p * (2 * b) + (b + 2 * r - 1) = omega (arith, e) in
    let least : b < 2 * a = omega (arith, e) in
    let turned : pos 2 *ℤ neg_ℤ (pos a) +ℤ pos b ≡ negsuc n = omega (arith, ints) in
    let down = quotient n (2 * b) p (b + 2 * r - 1) size (omega arith) in
    ap (λ z. floor_of z (2 * b)) turned ∙ ap negsuc down

nearest-above : (a b q r : ℕ) → a ≡ q * b + r → r < b → nearest_of (pos a) b ≡ pos (q + (if nat_le b (2 * r) then 1 else 0))
nearest-above a b q r e h = elim (cases_lt (2 * r) b) [
  | inl k ↦ (let t : nat_le b (2 * r) ≡ false = grind (arith, nat_tests) in rw t (ap pos (above-near a b q r e h k ∙ (let z : q ≡ q + 0 = omega arith in z))))
  | inr k ↦ (let t : nat_le b (2 * r) ≡ true = grind (arith, nat_tests) in rw t (ap pos (above-away a b q r e h k)))
]

nearest-below : (a b q r : ℕ) → a ≡ q * b + r → r < b → nearest_of (neg_ℤ (pos a)) b ≡ neg_ℤ (pos (q + (if nat_lt b (2 * r) then 1 else 0)))
nearest-below a b q r e h = elim (cases_lt b (2 * r)) [
  | inl k ↦ (let t : nat_lt b (2 * r) ≡ true = grind (arith, nat_tests) in rw t (below-away a b q r e h k))
  | inr k ↦ (let t : nat_lt b (2 * r) ≡ false = grind (arith, nat_tests) in rw t (near q e k))
]
  where
    near : (n : ℕ) → a ≡ n * b + r → 2 * r ≤ b → nearest_of (neg_ℤ (pos a)) b ≡ neg_ℤ (pos (n + 0))
    near zero d k = below-zero a b (omega (arith, d)) (omega (arith, d))
    near (suc p) d k = below-near a b p r d h k ∙ (let z : negsuc p ≡ neg_ℤ (pos (suc p + 0)) = omega (arith, ints) in z)

-- a number with the quotient q and the rest r
pub nearest-parts : (s : Bool) (a b q r : ℕ) → a ≡ q * b + r → r < b → nearest_of (signed s a) b ≡ signed s (q + (if away_of s r b then 1 else 0))
nearest-parts false a b q r e h = nearest-above a b q r e h
nearest-parts true a b q r e h = nearest-below a b q r e h

pub nearest-signed : (s : Bool) (a b : ℕ) → 0 < b → nearest_of (signed s a) b ≡ signed s (a / b + (if away_of s (a % b) b then 1 else 0))
nearest-signed s a b h = nearest-parts s a b (a / b) (a % b) (divided a b (a / b) refl) (mod-lt a h)

pub rounded_size : (a b : ℕ) (u : Bool) → 0 < b → a < 2 ^ 127 → (IsTrue u → a < 2 ^ 63) → a / b + bool_byte u < 2 ^ 127
rounded_size a b false p h k = let q = div-le_self a b in omega arith
rounded_size a b true p h k = let q = div-le_self a b in let small : a < 2 ^ 63 = k (search rules) in omega arith

-- the floor of a negative number is further from 0 where it has a rest, and of another one never
pub floor-negative : (s u : Bool) (a b : ℕ) → 0 < b → s ≡ true → u ≡ not (eqb (a % b) 0) → floor_of (signed s a) b ≡ signed s (a / b + (if u then 1 else 0))
floor-negative false u a b h e k = cc
floor-negative true u a b h e k = elim (cases_eq (a % b) 0) [
  | inl z ↦ (let t : u ≡ false = k ∙ (let g : not (eqb (a % b) 0) ≡ false = grind (arith, nat_tests) in g) in rw t (floor-whole true a b h z ∙ ap (signed true) (let g : a / b ≡ a / b + 0 = omega arith in g)))
  | inr n ↦ (let t : u ≡ true = k ∙ (let g : not (eqb (a % b) 0) ≡ true = grind (arith, nat_tests) in g) in rw t (floor-below a b h n))
]

pub floor-positive : (s u : Bool) (a b : ℕ) → s ≡ false → u ≡ s → floor_of (signed s a) b ≡ signed s (a / b + (if u then 1 else 0))
floor-positive true u a b e k = cc
floor-positive false true a b e k = cc
floor-positive false false a b e k = ap pos (let g : a / b ≡ a / b + 0 = omega arith in g)
