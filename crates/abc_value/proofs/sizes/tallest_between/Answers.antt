use Rattle.std.proofs.Common.{max, ap, ◌∙◌, arith}
use Rattle.abc_value.proofs.tables.Heights.{taller_between, none_between}
use Rattle.abc_value.proofs.sizes.tallest_between.Goals as goal

pub loop-i-init : goal.loop-i-init
loop-i-init c = none_between c.args.entries.now c.args.from

pub loop-i-preserved : goal.loop-i-preserved
loop-i-preserved c =
    taller_between c.args.entries.now c.args.from c.loop-i.i c.loop-i.height c.max-height.result c.index.result.now (omega arith) (omega arith) c.index.ensures c.loop-i.invariant
    (c.max-height.ensures ∙ ap (max c.loop-i.height) c.entry_height.ensures.height)
