use Rattle.abc_expressions.proofs.ReaderSteps.{last_between, last_before, last_none, last_inside}
use Rattle.abc_expressions.proofs.reading.Reader.finish.Goals as goal

pub loop-infix-preserved-in-Some-Between : goal.loop-infix-preserved-in-Some-Between
loop-infix-preserved-in-Some-Between c = last_between _ _ _ c.loop-infix.invariant _ _ _ _ _ (rw c.in-Some-Between.field-0-is at c.in-Some-Between.ensures) c.in_ok-a-in-Some-Between.ensures

pub loop-infix-preserved : goal.loop-infix-preserved
loop-infix-preserved c = last_before _ _ _ c.loop-infix.invariant _ _ _ _ (rw c.in-Some-Before.field-0-is at c.in-Some-Before.ensures) c.in_ok-a-in-Some-Before.ensures

pub returns-in-Some-Inside : goal.returns-in-Some-Inside
returns-in-Some-Inside c = last_inside _ _ _ c.loop-infix.invariant _ _ _ (rw c.in-Some-Inside.field-0-is at c.in-Some-Inside.ensures) _ c.whole.ensures

pub returns-in-None : goal.returns-in-None
returns-in-None c = last_none _ _ _ c.loop-infix.invariant c.pop.new.self c.in-None.ensures.0
