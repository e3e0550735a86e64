-- Numbers by sign and size.
use Rattle.std.proofs.Common.{◌≡◌, ◌≢◌, ℕ, suc, zero, ◌*◌, ◌<◌, refl, sym, ap, ◌∙◌, arith, ℤ, pos, negsuc, ◌*ℤ◌, Bool, true, false, Result}
use Rattle.std.specs.Prelude.{unsigned_abs}
use mathlib.Core.Bool.{not, beq}
use lib.Signed.{lt_z}
use Rattle.std.proofs.lemmas.Int.{ints}
use Rattle.abc_num.specs.declared.number.NumFault.{NumFault}
use Rattle.abc_num.specs.Number.{Fraction, signed}
use Rattle.abc_num.specs.Ratio.{IsRatio}
use Rattle.abc_num.proofs.LowestTerms.{signed-*ℤ, abs-signed}
use Rattle.abc_num.proofs.Ratios.{IsRatio-same, pos_ne, product_pos}

pub signed-product : (s t : Bool) (a b : ℕ) → signed (not (beq s t)) (a * b) ≡ signed s a *ℤ signed t b
signed-product false false a b = refl
signed-product false true a zero = omega (arith, ints)
signed-product false true a (suc b) = omega (arith, ints)
signed-product true false zero b = omega (arith, ints)
signed-product true false (suc a) b = omega (arith, ints)
signed-product true true zero b = omega (arith, ints)
signed-product true true (suc a) zero = omega (arith, ints)
signed-product true true (suc a) (suc b) = omega (arith, ints)

pub signed_zero : (s : Bool) (x : ℕ) → signed s x ≡ pos 0 → x ≡ 0
signed_zero s x e = sym (abs-signed s x) ∙ ap unsigned_abs e

not_below : (n : ℕ) → lt_z (pos n) (pos 0) ≡ false
not_below n = grind (arith, ints)

-- the sign and size of an integer
pub signed_size : (p : ℤ) → p ≡ signed (lt_z p (pos 0)) (unsigned_abs p)
signed_size (pos n) = ap (λ b. signed b n) (sym (not_below n))
signed_size (negsuc n) = refl

twice_apart : (s t : Bool) → not (beq (not (beq s t)) t) ≡ s
twice_apart false false = refl
twice_apart false true = refl
twice_apart true false = refl
twice_apart true true = refl

-- x / y times the denominators, with a sign below
quotient_sides : (s t : Bool) (a b c d : ℕ) → signed (not (beq s t)) (a * d) *ℤ (signed t c *ℤ pos b) ≡ (signed s a *ℤ pos d) *ℤ pos (b * c)
quotient_sides s t a b c d =
    ap (λ z. signed (not (beq s t)) (a * d) *ℤ z) (signed-*ℤ t c b)
    ∙ sym (signed-product (not (beq s t)) t (a * d) (c * b))
    ∙ ap (λ u. signed u ((a * d) * (c * b))) (twice_apart s t)
    ∙ ap (signed s) (let e : (a * d) * (c * b) ≡ (a * d) * (b * c) = omega arith in e)
    ∙ sym (signed-*ℤ s (a * d) (b * c))
    ∙ ap (λ z. z *ℤ pos (b * c)) (sym (signed-*ℤ s a d))

pub factor_ne : (z : ℤ) (b : ℕ) → z ≢ pos 0 → 0 < b → z *ℤ pos b ≢ pos 0
factor_ne (pos zero) b h p = absurd (h refl)
factor_ne (pos (suc n)) b h p = pos_ne (suc n * b) (product_pos (suc n) b (omega arith) p)
factor_ne (negsuc n) zero h p = absurd (omega arith)
factor_ne (negsuc n) (suc b) h p = λ e. absurd (omega (arith, ints, e))

pub IsRatio-quotient : (s t : Bool) (a b c d : ℕ) (r : Result Fraction NumFault) → 0 < b → 0 < c → IsRatio (signed (not (beq s t)) (a * d)) (pos (b * c)) r → IsRatio (signed s a *ℤ pos d) (signed t c *ℤ pos b) r
IsRatio-quotient s t a b c d r hb hc =
    IsRatio-same (signed (not (beq s t)) (a * d)) (pos (b * c)) (signed s a *ℤ pos d) (signed t c *ℤ pos b) r
    (pos_ne (b * c) (product_pos b c hb hc))
    (factor_ne (signed t c) b (λ e. let z = signed_zero t c e in absurd (omega arith)) hb)
    (quotient_sides s t a b c d)

sides : (p q : ℤ) → signed (not (beq (lt_z p (pos 0)) (lt_z q (pos 0)))) (unsigned_abs p) *ℤ q ≡ p *ℤ pos (unsigned_abs q)
sides p q =
    let s = lt_z p (pos 0) in
    let t = lt_z q (pos 0) in
    let a = unsigned_abs p in
    let b = unsigned_abs q in
    ap (λ z. signed (not (beq s t)) a *ℤ z) (signed_size q)
    ∙ sym (signed-product (not (beq s t)) t a b)
    ∙ ap (λ u. signed u (a * b)) (twice_apart s t)
    ∙ sym (signed-*ℤ s a b)
    ∙ ap (λ z. z *ℤ pos b) (sym (signed_size p))

abs_ne : (q : ℤ) → q ≢ pos 0 → pos (unsigned_abs q) ≢ pos 0
abs_ne (pos n) h e = h e
abs_ne (negsuc n) h e = let f : suc n ≡ 0 = ap unsigned_abs e in absurd (omega arith)

pub IsRatio-sides : (p q : ℤ) (r : Result Fraction NumFault) → q ≢ pos 0 → IsRatio (signed (not (beq (lt_z p (pos 0)) (lt_z q (pos 0)))) (unsigned_abs p)) (pos (unsigned_abs q)) r → IsRatio p q r
IsRatio-sides p q r h = IsRatio-same (signed (not (beq (lt_z p (pos 0)) (lt_z q (pos 0)))) (unsigned_abs p)) (pos (unsigned_abs q)) p q r (abs_ne q h) h (sides p q)

pub beq_same : (s t : Bool) → beq s t ≡ true → s ≡ t
beq_same false false e = refl
beq_same true true e = refl
beq_same false true e = cc
beq_same true false e = cc
