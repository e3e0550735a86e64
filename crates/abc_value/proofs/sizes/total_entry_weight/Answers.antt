use Rattle.std.proofs.Common.{◌+◌, ap, ◌∙◌, arith, refl}
use Rattle.abc_value.proofs.tables.Collecting.{no_pairs_regular, heavier_entry, regular_entry_more, entries_regular_at_end}
use Rattle.abc_value.proofs.sizes.total_entry_weight.Goals as goal

pub loop-i-init : goal.loop-i-init
loop-i-init c = record { sum = refl; fits = omega arith; regular = no_pairs_regular }

pub overflow_add-weight : goal.overflow_add-weight
overflow_add-weight c = omega (arith, c.entry_weight-weight.ensures.bound, c.loop-i.invariant.fits)

pub loop-i-preserved : goal.loop-i-preserved
loop-i-preserved c = record {
  sum = ap (λ w. c.loop-i.weight + w) c.entry_weight-weight.ensures.weight ∙ heavier_entry c.args.entries.now c.loop-i.i c.loop-i.weight c.index.result.now (omega arith) c.index.ensures c.loop-i.invariant.sum;
  fits = omega (arith, c.entry_weight-weight.ensures.bound, c.loop-i.invariant.fits);
  regular = regular_entry_more c.args.entries.now c.loop-i.i c.index.result.now (omega arith) c.index.ensures c.entry_weight-weight.ensures.regular c.loop-i.invariant.regular;
}

pub returns-clause-regular : goal.returns-clause-regular
returns-clause-regular c = entries_regular_at_end c.args.entries.now c.loop-i.i (omega arith) c.loop-i.invariant.regular
