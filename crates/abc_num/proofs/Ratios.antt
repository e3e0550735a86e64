-- Answers for fractions of one value.
use Rattle.std.proofs.Common.{◌≡◌, ◌≢◌, ℕ, suc, zero, ◌*◌, ◌<◌, refl, sym, ap, ◌∙◌, subst, arith, ℤ, pos, ◌*ℤ◌, Bool, Result, Ok, Err}
use Rattle.std.specs.Prelude.{unsigned_abs}
use Rattle.std.proofs.lemmas.Result.{MatchResult-weaker}
use Rattle.abc_num.specs.declared.number.NumFault.{NumFault}
use Rattle.abc_num.specs.declared.number.NumFault.TheVariants.{Overflow, DivisionByZero, NotWhole}
use Rattle.abc_num.specs.Number.{Fraction, fraction, signed, IsNumber, Equals}
use Rattle.abc_num.specs.Ratio.{IsRatio, HasValue, IsNoNumber}
use Rattle.abc_num.proofs.Integers.{same_value}
use Rattle.abc_num.proofs.LowestTerms.{signed-*ℤ}

pub IsRatio-ok : (a b : ℤ) (n : Fraction) → IsNumber n → Equals a b n → IsRatio a b (Ok n)
unfolding IsRatio
IsRatio-ok a b n i e = (i, e)

pub IsRatio-none : (a b : ℤ) → IsNoNumber a b → IsRatio a b (Err Overflow)
unfolding IsRatio
IsRatio-none a b h = (refl, h)

pub IsRatio-number : (a b : ℤ) (n : Fraction) → IsRatio a b (Ok n) → HasValue a b n
unfolding IsRatio
IsRatio-number a b n i = i

pub IsRatio-no_number : (a b : ℤ) (f : NumFault) → IsRatio a b (Err f) → IsNoNumber a b
unfolding IsRatio
IsRatio-no_number a b f i = i.1

-- an answer for a / b is one for each a' / b' of the same value
pub IsRatio-same : (a b a' b' : ℤ) (r : Result Fraction NumFault) → b ≢ pos 0 → b' ≢ pos 0 → a *ℤ b' ≡ a' *ℤ b → IsRatio a b r → IsRatio a' b' r
unfolding IsRatio
IsRatio-same a b a' b' r h h' e =
    λ m. MatchResult-weaker r m (λ n k. (k.0, same_value a b a' b' (pos n.denominator) n.numerator h e k.1))
    (λ f k. (k.0, λ n i g. k.1 n i (same_value a' b' a b (pos n.denominator) n.numerator h' (sym e) g)))

-- the only fault is Overflow
pub IsRatio-not_zero : (a b : ℤ) (r : Result Fraction NumFault) → IsRatio a b r → r ≢ Err DivisionByZero
unfolding IsRatio
IsRatio-not_zero a b (Ok n) i e = cc
IsRatio-not_zero a b (Err f) i e = let h = i.0 in cc

pub IsRatio-not_part : (a b : ℤ) (r : Result Fraction NumFault) → IsRatio a b r → r ≢ Err NotWhole
unfolding IsRatio
IsRatio-not_part a b (Ok n) i e = cc
IsRatio-not_part a b (Err f) i e = let h = i.0 in cc

pub pos_ne : (x : ℕ) → 0 < x → pos x ≢ pos 0
pos_ne x h e = let f : x ≡ 0 = ap unsigned_abs e in absurd (omega arith)

pub product_pos : (x y : ℕ) → 0 < x → 0 < y → 0 < x * y
product_pos x zero h k = absurd (omega arith)
product_pos x (suc y) h k = omega arith

-- of two fractions with one sign and positive denominators
pub IsRatio-scaled : (s : Bool) (a b a' b' : ℕ) (r : Result Fraction NumFault) → 0 < b → 0 < b' → a * b' ≡ a' * b → IsRatio (signed s a) (pos b) r → IsRatio (signed s a') (pos b') r
IsRatio-scaled s a b a' b' r h h' e = IsRatio-same (signed s a) (pos b) (signed s a') (pos b') r (pos_ne b h) (pos_ne b' h') (signed-*ℤ s a b' ∙ ap (signed s) e ∙ sym (signed-*ℤ s a' b))

pub IsRatio-lowest : (s : Bool) (x y : ℕ) (f : Fraction) → f ≡ fraction (signed s x) y → IsNumber (fraction (signed s x) y) → IsRatio (signed s x) (pos y) (Ok f)
IsRatio-lowest s x y f e i = subst (λ g. IsRatio (signed s x) (pos y) (Ok g)) (sym e) (IsRatio-ok (signed s x) (pos y) (fraction (signed s x) y) i refl)
