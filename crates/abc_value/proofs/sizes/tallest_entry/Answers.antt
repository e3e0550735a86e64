use Rattle.std.proofs.Common.{◌+◌, max, ap, ◌∙◌, arith}
use Rattle.abc_value.proofs.tables.Keys.{taller_entry, front_pairs_height}
use Rattle.abc_value.proofs.sizes.tallest_entry.Goals as goal

pub loop-i-preserved : goal.loop-i-preserved
loop-i-preserved c =
    taller_entry c.args.entries.now c.loop-i.i c.loop-i.height c.max-height.result c.index.result.now (omega arith) c.index.ensures c.loop-i.invariant
    (c.max-height.ensures ∙ ap (max c.loop-i.height) c.entry_height.ensures.height)

pub returns-then-height-most : goal.returns-then-height-most
returns-then-height-most c =
    let now = taller_entry c.args.entries.now c.loop-i.i c.loop-i.height c.max-height.result c.index.result.now (omega arith) c.index.ensures c.loop-i.invariant
    (c.max-height.ensures ∙ ap (max c.loop-i.height) c.entry_height.ensures.height) in
    let front = front_pairs_height c.args.entries.now (c.loop-i.i + 1) in
    omega arith
