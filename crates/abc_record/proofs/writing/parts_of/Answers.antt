use Rattle.std.proofs.Common.{◌≡◌, ◌<◌, ◌^◌, ℕ, ℤ, pos, unsigned_abs, refl, sym, ap, subst, ◌∙◌, arith}
use Rattle.std.specs.Prelude.{FitsSigned}
use Rattle.std.specs.Int.{w64, w128, cast_signed, cast_unsigned}
use lib.Dec.{T}
use lib.Signed.{non_neg}
use mir.Val.{Fits}
use Rattle.std.proofs.Math.Facts.{Fits-of_lt}
use Rattle.std.proofs.lemmas.Int.{to_z-of_z, fits_signed_from_abs}
use Rattle.abc_num.specs.Number.{whole_of}
use Rattle.abc_num.proofs.LowestTerms.{bounds}
use Rattle.abc_record.proofs.Fields.{some_is}
use Rattle.abc_record.proofs.writing.parts_of.Goals as goal

kept : (a z : ℤ) → a ≡ z → unsigned_abs z < 2 ^ 127 → cast_signed w128 (cast_unsigned w128 a) ≡ z
kept a z e lt = ap (λ (x : ℤ). cast_signed w128 (cast_unsigned w128 x)) e ∙ to_z-of_z w128 z (fits_signed_from_abs w128 z lt)

pub overflow_cast-result : goal.overflow_cast-result
overflow_cast-result c =
    let z = c.args.number.now.numerator in
    let small = (bounds c.args.number.now c.to_whole-whole.ensures.number).2 c.requires in
    let top : c.in-Some.top ≡ z = some_is c.in-Some.top z (sym c.in-Some.is ∙ c.to_whole.ensures.value ∙ ap whole_of c.numerator.ensures) in
    subst (FitsSigned w64) (sym (kept c.in-Some.top z top (omega (arith, small)))) (fits_signed_from_abs w64 z small)

pub overflow_cast-result-2 : goal.overflow_cast-result-2
overflow_cast-result-2 c =
    let d = c.args.number.now.denominator in
    let most = (bounds c.args.number.now c.to_whole-whole.ensures.number).1 in
    let bottom : c.in-Some-to_whole.bottom ≡ pos d = some_is c.in-Some-to_whole.bottom (pos d) (sym c.in-Some-to_whole.is ∙ c.to_whole-2.ensures.value ∙ ap whole_of c.denominator.ensures) in
    subst (λ (z : ℤ). T (non_neg z) × Fits w64 (unsigned_abs z)) (sym (kept c.in-Some-to_whole.bottom (pos d) bottom (omega (arith, most)))) (tt, Fits-of_lt (omega (arith, most)))

pub returns-clause-top : goal.returns-clause-top
returns-clause-top c =
    let z = c.args.number.now.numerator in
    let small = (bounds c.args.number.now c.to_whole-whole.ensures.number).2 c.requires in
    let top : c.in-Some.top ≡ z = some_is c.in-Some.top z (sym c.in-Some.is ∙ c.to_whole.ensures.value ∙ ap whole_of c.numerator.ensures) in
    ap (λ (x : ℤ). cast_signed w64 (cast_unsigned w64 x)) (kept c.in-Some.top z top (omega (arith, small))) ∙ to_z-of_z w64 z (fits_signed_from_abs w64 z small)
