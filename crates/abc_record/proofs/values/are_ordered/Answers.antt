use Rattle.std.proofs.Common.{◌≡◌, ◌-◌, ◌+◌, true, false, not, ◌&&◌, drop, sym, ap, ◌∙◌, arith}
use Rattle.std.specs.Ordering.{is_gt}
use Rattle.abc_value.specs.Order.{order}
use Rattle.abc_record.specs.inner.Reading.{are_ordered}
use Rattle.abc_record.proofs.Sorted.{ordered_at, ordered_to_end}
use Rattle.abc_record.proofs.values.are_ordered.Goals as goal

pub returns-then-is_gt : goal.returns-then-is_gt
returns-then-is_gt c =
    let xs = c.args.elements.now in
    let step = ordered_at xs c.loop-i.i c.index-elements-i.result c.index-elements-i-in-loop-i.result (omega arith) (omega arith) c.index-elements-i.is c.index-elements-i-in-loop-i.is in
    let greater : is_gt (order c.index-elements-i.result c.index-elements-i-in-loop-i.result) ≡ true = ap is_gt (sym c.cmp.ensures.order) ∙ sym c.is_gt.ensures ∙ c.if-is_gt.true in
    sym (ap (λ t. not t && are_ordered (drop c.loop-i.i xs)) greater) ∙ sym step ∙ c.loop-i.invariant

pub loop-i-preserved : goal.loop-i-preserved
loop-i-preserved c =
    let xs = c.args.elements.now in
    let step = ordered_at xs c.loop-i.i c.index-elements-i.result c.index-elements-i-in-loop-i.result (omega arith) (omega arith) c.index-elements-i.is c.index-elements-i-in-loop-i.is in
    let greater : is_gt (order c.index-elements-i.result c.index-elements-i-in-loop-i.result) ≡ false = ap is_gt (sym c.cmp.ensures.order) ∙ sym c.is_gt.ensures ∙ c.if-is_gt.false in
    let same : c.loop-i.i ≡ c.loop-i.i + 1 - 1 = omega arith in
    ap (λ k. are_ordered (drop k xs)) (sym same) ∙ sym (ap (λ t. not t && are_ordered (drop c.loop-i.i xs)) greater) ∙ sym step ∙ c.loop-i.invariant

pub returns : goal.returns
returns c = sym (ordered_to_end c.args.elements.now c.loop-i.i c.loop-i-test.false) ∙ c.loop-i.invariant
