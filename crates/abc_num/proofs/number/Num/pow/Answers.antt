use Rattle.std.proofs.Common.{pos, ◌<ℤ◌, subst, sym, ◌∙◌, arith, rules}
use Rattle.std.specs.Int.{w128}
use Rattle.std.specs.Int.RustNames.{FitsSigned}
use Rattle.std.proofs.lemmas.Int.{ints, to_z-of_z}
use Rattle.abc_num.specs.Operations.{IsPower}
use Rattle.abc_num.proofs.Order.{whole_of-some}
use Rattle.abc_num.proofs.Signs.{signed_zero}
use Rattle.abc_num.proofs.Powers.{IsPower-not_zero, IsPower-not_part}
use Rattle.abc_num.proofs.number.Num.pow.Goals as goal
use Rattle.abc_num.proofs.number.Num.pow.Goals.{else-exponent-lt0-via-then-exponent-lt0+else-x-eq0, else-exponent-lt0-via-else-exponent-lt0}

pub returns-clause-not_whole : goal.returns-clause-not_whole
returns-clause-not_whole c =
    let whole = whole_of-some _ _ c.in-Some.ensures.value in
    (λ e. absurd (IsPower-not_part _ _ _ c.power_of_parts.ensures e), λ n. absurd (n whole.0))

pub returns-clause-zero : goal.returns-clause-zero
returns-clause-zero c =
    let whole = whole_of-some _ _ c.in-Some.ensures.value in (
      λ e. absurd (IsPower-not_zero _ _ _ c.power_of_parts.ensures e),
      λ h.
          let top = signed_zero _ _ (c.parts-x.ensures.numerator ∙ h.1.0) in
          let below : c.in-Some.exponent <ℤ pos 0 = subst (λ e. e <ℤ pos 0) (sym whole.1) h.1.1 in
          absurd (elim c.else-exponent-lt0.branch [
            | else-exponent-lt0-via-then-exponent-lt0+else-x-eq0 w ↦ w.if-x-eq0.false top
            | else-exponent-lt0-via-else-exponent-lt0 w ↦ grind (arith, ints)
          ]),
    )

pub returns-clause-value : goal.returns-clause-value
returns-clause-value c _ _ =
    let whole = whole_of-some _ _ c.in-Some.ensures.value in
    let f : FitsSigned w128 c.in-Some.exponent = search rules in
    let value = simp to_z-of_z at (rw (c.parts-x.ensures.numerator, c.parts-x.ensures.denominator) at c.power_of_parts.ensures) in
    subst (λ e. IsPower c.args.self.now e c.power_of_parts.result) whole.1 value
