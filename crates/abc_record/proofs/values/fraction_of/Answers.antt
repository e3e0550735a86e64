use Rattle.std.proofs.Common.{◌≡◌, ◌≢◌, ℤ, pos, subst, ◌∙◌}
use Rattle.std.specs.Int.{w64, w128, cast_signed, cast_unsigned}
use Rattle.std.proofs.lemmas.Int.{to_z-of_z}
use Rattle.abc_num.specs.Ratio.{IsRatio}
use Rattle.abc_record.proofs.Numbers.{fraction_is}
use Rattle.abc_record.proofs.values.fraction_of.Goals as goal

pub returns : goal.returns
returns c =
    let top : cast_signed w128 (cast_unsigned w128 c.from.result) ≡ c.args.top =
    to_z-of_z w128 c.from.result (record { sfits = c.from.type_inv }) ∙ c.from.ensures ∙ to_z-of_z w64 c.args.top c.ranges.top in
    let bottom : cast_signed w128 (cast_unsigned w128 c.from-2.result) ≡ pos c.args.bottom = to_z-of_z w128 c.from-2.result (record { sfits = c.from-2.type_inv }) ∙ c.from-2.ensures in
    let by_bottom = subst (λ (q : ℤ). q ≢ pos 0 → IsRatio (cast_signed w128 (cast_unsigned w128 c.from.result)) q c.ratio.result) bottom c.ratio.ensures.value in
    let value = subst (λ (p : ℤ). pos c.args.bottom ≢ pos 0 → IsRatio p (pos c.args.bottom) c.ratio.result) top by_bottom in
    c.with_denominator.ensures ∙ fraction_is c.args.top c.args.bottom c.ratio.result c.if-bottom-lt2.false value
