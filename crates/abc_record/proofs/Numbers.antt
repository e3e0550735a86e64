-- Numbers that are read are those that were written.
use Rattle.std.proofs.Common.{◌≡◌, ◌≢◌, ℕ, zero, suc, ◌+◌, ◌*◌, ◌/◌, ◌%◌, ◌-◌, ◌^◌, ◌<◌, ◌≤◌, Bool, true, false, cond, eqb, ltb, ℤ, pos, negsuc, unsigned_abs, List, [], ◌∷◌, ◌++◌, Some, Result, Ok, Err, refl, sym, ap, subst, ◌∙◌, append_assoc, arith, inl, inr, eqb-true}
use Rattle.std.specs.Prelude.{◌*ℤ◌}
use Rattle.std.specs.Int.{w64, w128, cast_signed, cast_unsigned}
use Rattle.std.proofs.Math.Facts.{sfits_to_z, Fits-of_lt, Fits-of_z}
use mir.Val.{SFits}
use Rattle.std.proofs.lemmas.Bool.{ltb-false, le-ltb}
use Rattle.std.proofs.lemmas.Bool.Decides.{nat_tests}
use Rattle.std.proofs.lemmas.Int.{of_z-to_z, to_z-of_z, fits_signed_from_abs}
use Rattle.std.proofs.lemmas.Nat.{div-add-mod', div-mul-add, mod-mul-add}
use Rattle.abc_num.specs.Number.{Fraction, whole_number, IsNumber, IsProper}
use Rattle.abc_num.specs.Ratio.{IsRatio, ratio}
use Rattle.abc_num.specs.declared.number.NumFault.{NumFault}
use Rattle.abc_num.proofs.Computed.{ratio_is, is_ratio}
use Rattle.abc_num.proofs.Integers.{cancel}
use Rattle.abc_num.proofs.Ratios.{IsRatio-ok, IsRatio-number}
use Rattle.abc_value.specs.Tree.{Tree, number}
use Rattle.abc_value.specs.Regular.{IsRegular}
use Rattle.abc_value.specs.Sizes.{height_of}
use Rattle.abc_record.specs.Bytes.{in_eight, in_sixteen}
use Rattle.abc_record.specs.Spelling.{spelled_number, spelled_value, spelled_whole, spelled_fraction}
use Rattle.abc_record.specs.inner.Reading.{Found, ◌>>=◌, eight_of, is_least, whole_of_bits, whole_of, with_denominator, fraction_of, parts_of}
use Rattle.abc_record.proofs.Fields.{IsBytes, bind_some, not_refused, is_passed, some_is, Takes, Takes-then, Takes-tag, eight_reads}

-- a number and what stands behind its tag
abbrev pub TakesNumber : List ℕ → Tree → List ℕ → Type 0
TakesNumber bytes t rest = Takes bytes (spelled_value t) rest × IsRegular t × (height_of t ≡ 0)

-- ---- whole numbers

halves : (h l : ℕ) → l < 2 ^ 64 → in_sixteen (h * 2 ^ 64 + l) ≡ in_eight h ++ in_eight l
unfolding in_sixteen
halves h l lt = λ i. in_eight (div-mul-add h (2 ^ 64) l lt i) ++ in_eight (mod-mul-add h (2 ^ 64) l lt i)

whole_spelled : (z : ℤ) → spelled_number (whole_number z) ≡ 0 ∷ in_sixteen (cast_unsigned w128 z)
unfolding spelled_number
whole_spelled z = refl

not_least : (z : ℤ) → SFits w128 z → is_least z ≡ false → unsigned_abs z < 2 ^ 127
not_least (pos n) f e = omega (arith, f.sfits)
not_least (negsuc n) f e = grind (arith, nat_tests, f.sfits)

whole_regular : (z : ℤ) → unsigned_abs z < 2 ^ 127 → IsRegular (number (whole_number z))
unfolding IsRegular IsNumber
whole_regular z lt = inl (refl, lt)

moved : (bytes rest left : List ℕ) (t : Tree) (n m : Fraction) → n ≡ m → ◌≡◌ {A = Found Tree} (Some (number m, left)) (Some (t, rest)) → TakesNumber (0 ∷ bytes) (number n) left → TakesNumber (0 ∷ bytes) t rest
moved bytes rest left t n m same e taken =
    subst (λ (p : Tree × List ℕ). TakesNumber (0 ∷ bytes) p.0 p.1) (some_is (number m, left) (t, rest) e) (subst (λ k. TakesNumber (0 ∷ bytes) (number k) left) same taken)

pub whole_takes : (bytes rest : List ℕ) (t : Tree) → IsBytes bytes → whole_of bytes ≡ Some (t, rest) → TakesNumber (0 ∷ bytes) t rest
unfolding whole_of
whole_takes bytes rest t fits e =
    let a = bind_some (eight_of bytes) (λ high. eight_of high.1 >>= λ low. whole_of_bits (high.0 * 2 ^ 64 + low.0) >>= λ n. Some (number n, low.1)) (t, rest) e in
    let b = bind_some (eight_of a.0.1) (λ low. whole_of_bits (a.0.0 * 2 ^ 64 + low.0) >>= λ n. Some (number n, low.1)) (t, rest) a.2 in
    let bits : ℕ = a.0.0 * 2 ^ 64 + b.0.0 in
    let c = bind_some (whole_of_bits bits) (λ n. Some (number n, b.0.1)) (t, rest) b.2 in
    let high = eight_reads.takes bytes a.0.1 a.0.0 fits a.1 in
    let low = eight_reads.takes a.0.1 b.0.1 b.0.0 high.0.rest_fits b.1 in
    let z : ℤ = cast_signed w128 bits in
    let g = not_refused (is_least z) (Some (whole_number z)) c.0 c.1 in
    let small : bits < 2 ^ 128 = omega (arith, high.1, low.1) in
    let is : in_sixteen (cast_unsigned w128 z) ≡ in_eight a.0.0 ++ in_eight b.0.0 = ap in_sixteen (of_z-to_z w128 bits small) ∙ halves a.0.0 b.0.0 low.1 in
    let both = Takes-tag 0 bytes (in_eight a.0.0 ++ in_eight b.0.0) b.0.1 (Takes-then bytes (in_eight a.0.0) a.0.1 (in_eight b.0.0) b.0.1 high.0 low.0) in
    let spelled : Takes (0 ∷ bytes) (spelled_value (number (whole_number z))) b.0.1 = subst (λ (s : List ℕ). Takes (0 ∷ bytes) s b.0.1) (sym (whole_spelled z ∙ ap (λ (s : List ℕ). 0 ∷ s) is)) both in
    let whole : TakesNumber (0 ∷ bytes) (number (whole_number z)) b.0.1 = (spelled, whole_regular z (not_least z (sfits_to_z (Fits-of_lt small)) g.0), refl) in
    moved bytes rest b.0.1 t (whole_number z) c.0 (some_is (whole_number z) c.0 g.1) c.2 whole

abs_fits : (z : ℤ) → unsigned_abs z < 2 ^ 127 → SFits w128 z
abs_fits z lt = fits_signed_from_abs w128 z lt

not_least_back : (z : ℤ) → unsigned_abs z < 2 ^ 127 → is_least z ≡ false
not_least_back (pos n) lt = refl
not_least_back (negsuc n) lt = grind (arith, nat_tests)

pub whole_again : (z : ℤ) (rest : List ℕ) → unsigned_abs z < 2 ^ 127 → whole_of (in_sixteen (cast_unsigned w128 z) ++ rest) ≡ Some (number (whole_number z), rest)
unfolding whole_of in_sixteen
whole_again z rest lt =
    let f = abs_fits z lt in
    let bits : ℕ = cast_unsigned w128 z in
    let small : bits < 2 ^ 128 = (Fits-of_z f).fits in
    let h : ℕ = bits / 2 ^ 64 in
    let l : ℕ = bits % 2 ^ 64 in
    let sum : h * 2 ^ 64 + l ≡ bits = div-add-mod' bits (2 ^ 64) in
    let l_lt : l < 2 ^ 64 = omega arith in
    let h_lt : h < 2 ^ 64 = omega (arith, sum, small) in
    let regrouped : in_sixteen bits ++ rest ≡ in_eight h ++ (in_eight l ++ rest) = append_assoc (in_eight h) (in_eight l) rest in
    let back : cast_signed w128 (h * 2 ^ 64 + l) ≡ z = ap (cast_signed w128) sum ∙ to_z-of_z w128 z f in
    ap whole_of regrouped ∙ rw (eight_reads.again h (in_eight l ++ rest) h_lt, eight_reads.again l rest l_lt, back, not_least_back z lt) refl

-- ---- fractions

record IsOfParts (z : ℤ) (bottom : ℕ) (n : Fraction) : Type 0 where
  pub number : IsNumber n
  pub top_is : n.numerator ≡ z
  pub bottom_is : n.denominator ≡ bottom
  pub several : 2 ≤ bottom

by_ratio : (z : ℤ) (bottom : ℕ) (n : Fraction) (r : Result Fraction NumFault) → r ≡ ratio z (pos bottom) → 2 ≤ bottom → with_denominator bottom r ≡ Some n → IsOfParts z bottom n
by_ratio z bottom n (Ok m) q two e =
    let g = is_passed (eqb m.denominator bottom) (Some m) n e in
    let same : m ≡ n = some_is m n g.1 in
    let not_zero : pos bottom ≢ pos 0 = λ h. (let k : bottom ≡ 0 = ap unsigned_abs h in omega (arith, k, two)) in
    let value = IsRatio-number z (pos bottom) m (is_ratio z (pos bottom) (Ok m) not_zero q) in
    let den : m.denominator ≡ bottom = eqb-true m.denominator bottom g.0 in
    let top : m.numerator ≡ z = cancel (pos bottom) m.numerator z not_zero (value.1 ∙ ap (λ d. z *ℤ pos d) den) in
    let of_m : IsOfParts z bottom m = record { number = value.0; top_is = top; bottom_is = den; several = two } in
    subst (IsOfParts z bottom) same of_m
by_ratio z bottom n (Err f) q two e = absurd cc

fraction_found : (z : ℤ) (bottom : ℕ) (n : Fraction) → fraction_of z bottom ≡ Some n → IsOfParts z bottom n
unfolding fraction_of
fraction_found z bottom n e =
    let g = not_refused (ltb bottom 2) (with_denominator bottom (ratio z (pos bottom))) n e in
    by_ratio z bottom n (ratio z (pos bottom)) refl (ltb-false _ _ g.0) g.1

fraction_spelled : (n : Fraction) → (n.denominator ≡ 1 → ⊥) → spelled_number n ≡ spelled_fraction n
unfolding spelled_number
fraction_spelled n ne = let no : eqb n.denominator 1 ≡ false = grind (arith, nat_tests) in ap (λ t. cond t (spelled_whole n) (spelled_fraction n)) no

number_regular : (n : Fraction) → IsNumber n → IsRegular (number n)
unfolding IsRegular
number_regular n h = h

pub parts_takes : (bytes rest : List ℕ) (t : Tree) → IsBytes bytes → parts_of bytes ≡ Some (t, rest) → TakesNumber (1 ∷ bytes) t rest
unfolding parts_of
parts_takes bytes rest t fits e =
    let a = bind_some (eight_of bytes) (λ top. eight_of top.1 >>= λ bottom. fraction_of (cast_signed w64 top.0) bottom.0 >>= λ n. Some (number n, bottom.1)) (t, rest) e in
    let b = bind_some (eight_of a.0.1) (λ bottom. fraction_of (cast_signed w64 a.0.0) bottom.0 >>= λ n. Some (number n, bottom.1)) (t, rest) a.2 in
    let c = bind_some (fraction_of (cast_signed w64 a.0.0) b.0.0) (λ n. Some (number n, b.0.1)) (t, rest) b.2 in
    let n = c.0 in
    let top = eight_reads.takes bytes a.0.1 a.0.0 fits a.1 in
    let bottom = eight_reads.takes a.0.1 b.0.1 b.0.0 top.0.rest_fits b.1 in
    let are = fraction_found (cast_signed w64 a.0.0) b.0.0 n c.1 in
    let not_whole : n.denominator ≡ 1 → ⊥ = λ h. omega (arith, h, are.bottom_is, are.several) in
    let high : cast_unsigned w64 n.numerator ≡ a.0.0 = ap (cast_unsigned w64) are.top_is ∙ of_z-to_z w64 a.0.0 top.1 in
    let is : spelled_value (number n) ≡ 1 ∷ (in_eight a.0.0 ++ in_eight b.0.0) = fraction_spelled n not_whole ∙ (λ i. 1 ∷ (in_eight (high i) ++ in_eight (are.bottom_is i))) in
    let both = Takes-tag 1 bytes (in_eight a.0.0 ++ in_eight b.0.0) b.0.1 (Takes-then bytes (in_eight a.0.0) a.0.1 (in_eight b.0.0) b.0.1 top.0 bottom.0) in
    let whole : TakesNumber (1 ∷ bytes) (number n) b.0.1 = (subst (λ (s : List ℕ). Takes (1 ∷ bytes) s b.0.1) (sym is) both, number_regular n are.number, refl) in
    subst (λ (p : Tree × List ℕ). TakesNumber (1 ∷ bytes) p.0 p.1) (some_is (number n, b.0.1) (t, rest) c.2) whole

fraction_back : (n : Fraction) → IsNumber n → 2 ≤ n.denominator → fraction_of n.numerator n.denominator ≡ Some n
unfolding fraction_of
fraction_back n h two =
    let not_zero : pos n.denominator ≢ pos 0 = λ e. (let k : n.denominator ≡ 0 = ap unsigned_abs e in omega (arith, k, two)) in
    let is : Ok n ≡ ratio n.numerator (pos n.denominator) = ratio_is n.numerator (pos n.denominator) (Ok n) not_zero (IsRatio-ok n.numerator (pos n.denominator) n h refl) in
    let few : ltb n.denominator 2 ≡ false = le-ltb _ _ two in
    let same : eqb n.denominator n.denominator ≡ true = grind (arith, nat_tests) in
    rw (few, ← is, same) refl

pub parts_again : (n : Fraction) (rest : List ℕ) → IsNumber n → IsProper n → parts_of (in_eight (cast_unsigned w64 n.numerator) ++ in_eight n.denominator ++ rest) ≡ Some (number n, rest)
unfolding parts_of
parts_again n rest h p =
    let f : SFits w64 n.numerator = fits_signed_from_abs w64 n.numerator p.2 in
    let top : ℕ = cast_unsigned w64 n.numerator in
    let top_lt : top < 2 ^ 64 = (Fits-of_z f).fits in
    let bottom_lt : n.denominator < 2 ^ 64 = omega (arith, p.1) in
    let regrouped : in_eight top ++ in_eight n.denominator ++ rest ≡ in_eight top ++ (in_eight n.denominator ++ rest) = append_assoc (in_eight top) (in_eight n.denominator) rest in
    ap parts_of regrouped ∙ rw (eight_reads.again top (in_eight n.denominator ++ rest) top_lt, eight_reads.again n.denominator rest bottom_lt, to_z-of_z w64 n.numerator f, fraction_back n h p.0) refl

-- the quotient decides which fraction it is
pub fraction_is : (z : ℤ) (bottom : ℕ) (r : Result Fraction NumFault) → 2 ≤ bottom → (pos bottom ≢ pos 0 → IsRatio z (pos bottom) r) → with_denominator bottom r ≡ fraction_of z bottom
unfolding fraction_of
fraction_is z bottom r two value =
    let not_zero : pos bottom ≢ pos 0 = λ h. (let k : bottom ≡ 0 = ap unsigned_abs h in omega (arith, k, two)) in
    let few : ltb bottom 2 ≡ false = le-ltb _ _ two in
    rw few (ap (with_denominator bottom) (ratio_is z (pos bottom) r not_zero (value not_zero)))
