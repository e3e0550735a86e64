-- What abc_num's operations answer is what the rows give.
use Rattle.std.proofs.Common.{◌≡◌, ◌≢◌, ℕ, suc, zero, ◌*◌, ◌%◌, ◌^◌, refl, sym, ap, ◌∙◌, arith, ℤ, pos, negsuc, ◌<ℤ◌, Bool, true, false, None, Some, Result, inl, inr, ◌⊎◌, ◌↔◌}
use Rattle.std.specs.Prelude.{nat_eq}
use Rattle.std.specs.Result.{IsErrOf}
use Rattle.std.specs.Int.{int_pow}
use Rattle.std.proofs.lemmas.Int.{ints}
use Rattle.std.proofs.lemmas.Bool.{cases_eq}
use Rattle.std.proofs.lemmas.Bool.Decides.{nat_tests}
use Rattle.abc_num.specs.declared.number.NumFault.{NumFault}
use Rattle.abc_num.specs.declared.number.NumFault.TheVariants.{DivisionByZero, NotWhole}
use Rattle.abc_num.specs.Number.{Fraction, IsNumber, whole_of}
use Rattle.abc_num.specs.Operations.{IsSum, IsDifference, IsProduct, IsQuotient, IsRest, IsPower, IsRoundedTo, DividesByZero}
use Rattle.abc_num.proofs.Digits.{power-positive}
use Rattle.abc_num.proofs.Order.{denominator-positive}
use Rattle.abc_num.proofs.Powers.{int_pow-even, int_pow-odd}
use Rattle.abc_num.proofs.Ratios.{pos_ne, product_pos}
use Rattle.abc_num.proofs.Signs.{factor_ne}
use Rattle.abc_predef.specs.Numbers.{unless_zero, sum_of, difference_of, product_of, quotient_of, rest_of, whole_power, power_to, power_of, whole_rounding, rounding_to, rounding_of}
use Rattle.abc_num.proofs.Computed.{ratio_is}

common_ne : (x y : Fraction) → IsNumber x → IsNumber y → pos (x.denominator * y.denominator) ≢ pos 0
common_ne x y h k = pos_ne (x.denominator * y.denominator) (product_pos x.denominator y.denominator (denominator-positive x h) (denominator-positive y k))

pub sum_is : (x y : Fraction) (r : Result Fraction NumFault) → IsNumber x → IsNumber y → IsSum x y r → r ≡ sum_of x y
sum_is x y r h k v = ratio_is _ _ r (common_ne x y h k) v

pub difference_is : (x y : Fraction) (r : Result Fraction NumFault) → IsNumber x → IsNumber y → IsDifference x y r → r ≡ difference_of x y
difference_is x y r h k v = ratio_is _ _ r (common_ne x y h k) v

pub product_is : (x y : Fraction) (r : Result Fraction NumFault) → IsNumber x → IsNumber y → IsProduct x y r → r ≡ product_of x y
product_is x y r h k v = ratio_is _ _ r (common_ne x y h k) v

by_divisor : (z : ℤ) (r answer : Result Fraction NumFault) → (IsErrOf r DivisionByZero ↔ (z ≡ pos 0)) → (z ≢ pos 0 → r ≡ answer) → r ≡ unless_zero z answer
by_divisor (pos zero) r answer h k = h.1 refl
by_divisor (pos (suc n)) r answer h k = k (pos_ne (suc n) (omega arith)) ∙ (let t : nat_eq (suc n) 0 ≡ false = grind (arith, nat_tests) in rw t refl)
by_divisor (negsuc n) r answer h k = k (λ e. absurd (omega (arith, ints, e)))

pub quotient_is : (x y : Fraction) (r : Result Fraction NumFault) → IsNumber x → (IsErrOf r DivisionByZero ↔ (y.numerator ≡ pos 0)) → (y.numerator ≢ pos 0 → IsQuotient x y r) → r ≡ quotient_of x y
quotient_is x y r h z v = by_divisor y.numerator r _ z (λ n. ratio_is _ _ r (factor_ne y.numerator x.denominator n (denominator-positive x h)) (v n))

pub rest_is : (x y : Fraction) (r : Result Fraction NumFault) → IsNumber x → IsNumber y → (IsErrOf r DivisionByZero ↔ (y.numerator ≡ pos 0)) → (y.numerator ≢ pos 0 → IsRest x y r) → r ≡ rest_of x y
rest_is x y r h k z v = by_divisor y.numerator r _ z (λ n. ratio_is _ _ r (common_ne x y h k) (v n))

power_ne : (a : ℤ) (n : ℕ) → a ≢ pos 0 → int_pow a n ≢ pos 0
power_ne (pos zero) n h = absurd (h refl)
power_ne (pos (suc a)) n h = pos_ne (suc a ^ n) (power-positive (suc a) n (omega arith))
power_ne (negsuc a) n h =
    let p = power-positive (suc a) n (omega arith) in
    elim (cases_eq (n % 2) 0) [
      | inl even ↦ λ e. pos_ne (suc a ^ n) p (sym (int_pow-even true (suc a) n even) ∙ e)
      | inr odd ↦ λ e. let f = sym (int_pow-odd true (suc a) n odd) ∙ e in absurd (omega (arith, ints, f))
    ]

by_exponent : (x : Fraction) (n : ℤ) (r : Result Fraction NumFault) → IsNumber x → (IsErrOf r DivisionByZero ↔ DividesByZero x n) → (¬ (DividesByZero x n) → IsPower x n r) → r ≡ whole_power x n
by_exponent x (pos n) r h z v =
    ratio_is _ _ r (pos_ne (x.denominator ^ n) (power-positive x.denominator n (denominator-positive x h))) (v (λ d. absurd (omega (arith, ints, d.1))))
by_exponent x (negsuc n) r h z v =
    let below : negsuc n <ℤ pos 0 = omega (arith, ints) in
    by_divisor x.numerator r _ (λ e. (z.0 e).0, λ e. z.1 (e, below))
    (λ ne. ratio_is _ _ r (power_ne x.numerator (suc n) ne) (v (λ d. ne d.0)))

by_whole : (n : Fraction) (b : Bool) → nat_eq n.denominator 1 ≡ b → (n.denominator ≡ 1) ⊎ (n.denominator ≢ 1)
by_whole n true t = inl (grind (arith, nat_tests))
by_whole n false t = inr (grind (arith, nat_tests))

whole : (n : Fraction) → n.denominator ≡ 1 → whole_of n ≡ Some n.numerator
whole n e = rw e refl

not_whole : (n : Fraction) → n.denominator ≢ 1 → whole_of n ≡ None
not_whole n h = let t : nat_eq n.denominator 1 ≡ false = grind (arith, nat_tests) in rw t refl

pub power_is : (x n : Fraction) (r : Result Fraction NumFault) → IsNumber x → (IsErrOf r NotWhole ↔ (n.denominator ≢ 1)) → (IsErrOf r DivisionByZero ↔ ((n.denominator ≡ 1) × DividesByZero x n.numerator)) → (n.denominator ≡ 1 → ¬ (DividesByZero x n.numerator) → IsPower x n.numerator r) → r ≡ power_of x n
power_is x n r h w z v =
    elim (cases_eq n.denominator 1) [
      | inl e ↦ by_exponent x n.numerator r h (λ f. (z.0 f).1, λ d. z.1 (e, d)) (v e) ∙ ap (power_to x) (sym (whole n e))
      | inr ne ↦ w.1 ne ∙ ap (power_to x) (sym (not_whole n ne))
    ]

by_places : (x : Fraction) (n : ℤ) (r : Result Fraction NumFault) → IsRoundedTo x n r → r ≡ whole_rounding x n
by_places x (pos n) r v = ratio_is _ _ r (pos_ne (10 ^ n) (power-positive 10 n (omega arith))) v
by_places x (negsuc n) r v = ratio_is _ _ r (pos_ne 1 (omega arith)) v

pub rounding_is : (n x : Fraction) (r : Result Fraction NumFault) → (IsErrOf r NotWhole ↔ (n.denominator ≢ 1)) → (n.denominator ≡ 1 → IsRoundedTo x n.numerator r) → r ≡ rounding_of n x
rounding_is n x r w v =
    elim (cases_eq n.denominator 1) [
      | inl e ↦ by_places x n.numerator r (v e) ∙ ap (rounding_to x) (sym (whole n e))
      | inr ne ↦ w.1 ne ∙ ap (rounding_to x) (sym (not_whole n ne))
    ]
