-- A number token has a value exactly where it is computed that it has.
use Rattle.std.proofs.Common.{◌≡◌, ◌≢◌, ℕ, Bool, true, false, List, length, refl, sym, ap, subst, arith, ℤ, pos, Result, Ok, Err}
use Rattle.std.specs.Result.{is_ok}
use Rattle.std.proofs.lemmas.Bool.{both_ways}
use Rattle.abc_num.specs.declared.number.NumFault.{NumFault}
use Rattle.abc_num.specs.Literal.{literal_numerator, literal_denominator, behind}
use Rattle.abc_num.specs.Number.{Fraction}
use Rattle.abc_num.specs.Ratio.{IsRatio, ratio}
use Rattle.abc_num.proofs.Computed.{ratio_is, ratio_has_value}
use Rattle.abc_num.proofs.Digits.{power-positive}
use Rattle.abc_num.proofs.Ratios.{pos_ne}
use Rattle.abc_tokens.specs.Tokens.{IsSound, IsBadNumber}
use Rattle.abc_tokens.specs.Values.{has_value}

module _ (n : List ℕ) where
  abbrev top : ℤ
  top = pos (literal_numerator n)

  abbrev bottom : ℤ
  bottom = pos (literal_denominator n)

  no_zero : bottom ≢ pos 0
  no_zero = pos_ne (literal_denominator n) (power-positive 10 (length (behind n)) (omega arith))

  pub sound_found : IsSound n → has_value n ≡ true
  unfolding has_value IsRatio
  sound_found h = ap is_ok (sym (ratio_is top bottom (Ok h.0) no_zero h.1))

  by_ratio : (r : Result Fraction NumFault) → ratio top bottom ≡ r → is_ok r ≡ true → IsSound n
  unfolding IsRatio
  by_ratio (Ok v) e t = (v, subst (IsRatio top bottom) e (ratio_has_value top bottom no_zero))
  by_ratio (Err f) e t = cc

  pub sound_told : has_value n ≡ true → IsSound n
  unfolding has_value
  sound_told h = by_ratio (ratio top bottom) refl h

  pub bad_found : IsBadNumber n → has_value n ≡ false
  bad_found h = by_test (has_value n) refl
    where
      by_test : (b : Bool) → has_value n ≡ b → has_value n ≡ false
      by_test false e = e
      by_test true e = let s = sound_told e in absurd (h s.0 s.1.0 s.1.1)

  pub bad_told : has_value n ≡ false → IsBadNumber n
  bad_told h v i e = both_ways (has_value n) h (sound_found (v, (i, e)))
