use Rattle.abc_groups.proofs.Numbering.{numbered_next}
use Rattle.abc_groups.proofs.found.Found.row.Goals as goal

pub loop-t-preserved : goal.loop-t-preserved
loop-t-preserved c = record {
  same = c.in_ok-number.ensures.same;
  different = c.in_ok-number.ensures.different;
  numbered = rw c.in_ok-push.ensures.ok (numbered_next _ c.args.ts.now c.loop-t.t-index _ _ _ _ _ c.loop-t-test.true c.t-item.is c.loop-t.invariant.numbered c.in_ok-number.ensures.number);
}
