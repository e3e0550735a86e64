use Rattle.std.proofs.Common.{ℤ, subst, sym, ◌∙◌}
use Rattle.std.specs.Int.{w128}
use Rattle.std.proofs.lemmas.Int.{to_z-of_z}
use Rattle.abc_num.specs.Number.{fraction, IsNumber}
use Rattle.abc_num.proofs.number.Num.of_parts.Goals as goal

pub invariant_of-result : goal.invariant_of-result
invariant_of-result c =
    let same = to_z-of_z w128 c.with_sign.result (record { sfits = c.with_sign.type_inv }) in
    let P : ℤ → Type 0 = λ z. IsNumber (fraction z c.args.bottom) in
    subst P (sym (same ∙ c.with_sign.ensures)) c.requires.number
