use Rattle.std.proofs.Common.{◌+◌, ap, ◌∙◌, arith, refl}
use Rattle.abc_value.proofs.trees.Making.{regular_sizes, heavier, one_regular_more, none_regular, regular_at_end}
use Rattle.abc_value.proofs.sizes.total_weight.Goals as goal

pub loop-i-init : goal.loop-i-init
loop-i-init c = record { sum = refl; fits = omega arith; regular = none_regular }

pub overflow_add-weight : goal.overflow_add-weight
overflow_add-weight c = let s = regular_sizes c.index.result.now c.weight-weight.ensures.regular in omega (arith, s.1, c.weight-weight.ensures.weight, c.loop-i.invariant.fits)

pub loop-i-preserved : goal.loop-i-preserved
loop-i-preserved c =
    let s = regular_sizes c.index.result.now c.weight-weight.ensures.regular in
    record {
      sum = ap (λ w. c.loop-i.weight + w) c.weight-weight.ensures.weight ∙ heavier c.args.parts.now c.loop-i.i c.loop-i.weight c.index.result.now (omega arith) c.index.ensures c.loop-i.invariant.sum;
      fits = omega (arith, s.1, c.weight-weight.ensures.weight, c.loop-i.invariant.fits);
      regular = one_regular_more c.args.parts.now c.loop-i.i c.index.result.now (omega arith) c.index.ensures c.weight-weight.ensures.regular c.loop-i.invariant.regular;
    }

pub returns-clause-regular : goal.returns-clause-regular
returns-clause-regular c = regular_at_end c.args.parts.now c.loop-i.i (omega arith) c.loop-i.invariant.regular
