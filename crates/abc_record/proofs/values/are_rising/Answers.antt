use Rattle.std.proofs.Common.{◌≡◌, ◌-◌, ◌+◌, true, false, ◌&&◌, drop, sym, ap, ◌∙◌, arith}
use Rattle.std.specs.Ordering.{is_lt}
use Rattle.abc_value.specs.Order.{order}
use Rattle.abc_record.specs.inner.Reading.{are_rising}
use Rattle.abc_record.proofs.Sorted.{rising_at, rising_to_end}
use Rattle.abc_record.proofs.values.are_rising.Goals as goal

pub returns-then-not-rises : goal.returns-then-not-rises
returns-then-not-rises c =
    let xs = c.args.pairs.now in
    let step = rising_at xs c.loop-i.i c.index-pairs-i.result c.index-pairs-i-in-loop-i.result (omega arith) (omega arith) c.index-pairs-i.is c.index-pairs-i-in-loop-i.is in
    let less : is_lt (order c.index-pairs-i.result.0 c.index-pairs-i-in-loop-i.result.0) ≡ false = sym c.rises.ensures ∙ c.if-not-rises.true in
    sym (ap (λ t. t && are_rising (drop c.loop-i.i xs)) less) ∙ sym step ∙ c.loop-i.invariant

pub loop-i-preserved : goal.loop-i-preserved
loop-i-preserved c =
    let xs = c.args.pairs.now in
    let step = rising_at xs c.loop-i.i c.index-pairs-i.result c.index-pairs-i-in-loop-i.result (omega arith) (omega arith) c.index-pairs-i.is c.index-pairs-i-in-loop-i.is in
    let less : is_lt (order c.index-pairs-i.result.0 c.index-pairs-i-in-loop-i.result.0) ≡ true = sym c.rises.ensures ∙ c.if-not-rises.false in
    let same : c.loop-i.i ≡ c.loop-i.i + 1 - 1 = omega arith in
    ap (λ k. are_rising (drop k xs)) (sym same) ∙ sym (ap (λ t. t && are_rising (drop c.loop-i.i xs)) less) ∙ sym step ∙ c.loop-i.invariant

pub returns : goal.returns
returns c = sym (rising_to_end c.args.pairs.now c.loop-i.i c.loop-i-test.false) ∙ c.loop-i.invariant
