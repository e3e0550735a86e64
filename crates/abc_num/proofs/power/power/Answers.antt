use Rattle.std.proofs.Common.{◌<◌, ◌*◌, ◌^◌, sym, ap, ◌∙◌, arith}
use Rattle.std.proofs.lemmas.Grind.{pow_more}
use Rattle.abc_num.proofs.Powers.{power-small, power-le}
use Rattle.abc_num.proofs.power.power.Goals as goal

pub returns-else-exponent-eq0-clause-some : goal.returns-else-exponent-eq0-clause-some
returns-else-exponent-eq0-clause-some c = sym (power-small c.args.base c.args.exponent c.if-base-lt2.true c.if-exponent-eq0.false)

pub returns-in_err-product-clause-none : goal.returns-in_err-product-clause-none
returns-in_err-product-clause-none c =
    let past : c.loop.product * c.args.base < 2 ^ 128 → ⊥ = c.in_err-product.ensures in
    let least = power-le c.args.base c.loop.counter c.args.exponent (omega (arith, c.if-base-lt2.false)) c.loop-test.true in
    rw c.from_residual.ensures (omega (arith, past, least, ap (λ z. z * c.args.base) c.loop.invariant))

pub loop-preserved : goal.loop-preserved
loop-preserved c = c.in_ok-product.ensures.1 ∙ ap (λ z. z * c.args.base) c.loop.invariant ∙ sym (pow_more c.args.base c.loop.counter)
