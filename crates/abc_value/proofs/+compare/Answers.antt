use Rattle.std.proofs.Common.{arith, drop, length-drop, ◌∙◌, sym}
use Rattle.abc_value.proofs.ordering.Comparing.{part_below, order_at_end, entry_below, pairs_at_end}
use Rattle.abc_value.proofs.+compare.Goals as goal

pub compare::cmp_all-cmp-requires : goal.compare::cmp_all-cmp-requires
compare::cmp_all-cmp-requires t c =
    let below = part_below c.args.a.now c.loop-i.i c.index.result.now (omega arith) c.index.ensures in
    (omega arith, tt)

pub compare::cmp_all-returns : goal.compare::cmp_all-returns
compare::cmp_all-returns t c =
    let us = drop c.loop-i.i c.args.a.now in
    let vs = drop c.loop-i.i c.args.b.now in
    let lu = length-drop c.loop-i.i c.args.a.now in
    let lv = length-drop c.loop-i.i c.args.b.now in
    c.cmp-2.ensures ∙ sym (c.loop-i.invariant ∙ order_at_end c.loop-i.i c.len-3.result c.len-4.result us vs (omega arith) (omega arith) (omega arith))

pub compare::cmp_entries-cmp-requires : goal.compare::cmp_entries-cmp-requires
compare::cmp_entries-cmp-requires t c =
    let below = entry_below c.args.a.now c.loop-i.i c.index.result.now (omega arith) c.index.ensures in
    (omega (arith, below.0), tt)

pub compare::cmp_entries-cmp-requires-in-loop-i : goal.compare::cmp_entries-cmp-requires-in-loop-i
compare::cmp_entries-cmp-requires-in-loop-i t c =
    let below = entry_below c.args.a.now c.loop-i.i c.index-in-loop-i-2.result.now (omega arith) c.index-in-loop-i-2.ensures in
    (omega (arith, below.1), tt)

pub compare::cmp_entries-returns : goal.compare::cmp_entries-returns
compare::cmp_entries-returns t c =
    let us = drop c.loop-i.i c.args.a.now in
    let vs = drop c.loop-i.i c.args.b.now in
    let lu = length-drop c.loop-i.i c.args.a.now in
    let lv = length-drop c.loop-i.i c.args.b.now in
    c.cmp-2.ensures ∙ sym (c.loop-i.invariant ∙ pairs_at_end c.loop-i.i c.len-3.result c.len-4.result us vs (omega arith) (omega arith) (omega arith))
