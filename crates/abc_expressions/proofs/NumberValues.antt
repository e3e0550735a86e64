-- The value of a number token that is computed is the number with that value, if there is one.
use Rattle.std.proofs.Common.{◌≡◌, ℕ, ◌<◌, ◌/◌, Bool, true, false, List, Some, refl, ap, sym, subst, arith, length, pos, Ok}
use Rattle.std.specs.Prelude.{if◌then◌else◌, Err}
use Rattle.std.specs.Result.{result_ok}
use Rattle.abc_num.specs.declared.number.NumFault.TheVariants.{Overflow}
use Rattle.std.proofs.Math.Nat.{div-mul_cancel}
use Rattle.abc_num.specs.Literal.{literal_numerator, literal_denominator, behind}
use Rattle.abc_num.specs.Number.{Fraction, fraction, AreParts}
use Rattle.abc_num.specs.Ratio.{HasValue, IsRatio}
use Rattle.abc_num.proofs.Digits.{power-positive}
use Rattle.abc_num.proofs.Divisors.{factor_positive}
use Rattle.abc_num.proofs.LowestTerms.{parts_coprime, same_parts, number-from_parts}
use Rattle.abc_num.proofs.Ratios.{pos_ne}
use Rattle.abc_num.specs.Ratio.{gcd, are_within, ratio}
use Rattle.abc_num.proofs.Computed.{gcd_is, parts_within, ratio_is}
use Rattle.abc_expressions.specs.Grammar.{IsValueOf}
use Rattle.abc_expressions.specs.inner.Numbers.{number_at}

module _ (a b : ℕ) (positive : 0 < b) where
  abbrev g : ℕ
  g = gcd a b

  parts : are_within (a / g) (b / g) ≡ true → AreParts (a / g) (b / g)
  parts = parts_within (a / g) (b / g) (factor_positive (b / g) g b (div-mul_cancel g (gcd_is a b).1) positive) (parts_coprime a b g positive (gcd_is a b))

  lowest_told : (c : Bool) (v : Fraction) → are_within (a / g) (b / g) ≡ c
      → result_ok (if c then Ok (fraction (pos (a / g)) (b / g)) else Err Overflow) ≡ Some v → HasValue (pos a) (pos b) v
  lowest_told false v e h = cc
  lowest_told true v e h =
      let is : fraction (pos (a / g)) (b / g) ≡ v = cc in
      subst (HasValue (pos a) (pos b)) is (number-from_parts false (a / g) (b / g) (parts e), ap pos (same_parts a b g (gcd_is a b)))

  ratio_told : (v : Fraction) → result_ok (ratio (pos a) (pos b)) ≡ Some v → HasValue (pos a) (pos b) v
  unfolding ratio
  ratio_told v h = lowest_told (are_within (a / g) (b / g)) v refl h

  ratio_found : (v : Fraction) → HasValue (pos a) (pos b) v → result_ok (ratio (pos a) (pos b)) ≡ Some v
  unfolding IsRatio
  ratio_found v h = ap result_ok (sym (ratio_is (pos a) (pos b) (Ok v) (pos_ne b positive) h))

denominator_pos : (bytes : List ℕ) → 0 < literal_denominator bytes
denominator_pos bytes = power-positive 10 (length (behind bytes)) (omega arith)

pub value_found : (bytes : List ℕ) (v : Fraction) → IsValueOf bytes v → number_at bytes ≡ Some v
unfolding number_at
value_found bytes v h = ratio_found (literal_numerator bytes) (literal_denominator bytes) (denominator_pos bytes) v h

pub value_told : (bytes : List ℕ) (v : Fraction) → number_at bytes ≡ Some v → IsValueOf bytes v
unfolding number_at
value_told bytes v h = ratio_told (literal_numerator bytes) (literal_denominator bytes) (denominator_pos bytes) v h
