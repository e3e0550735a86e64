use Rattle.abc_outline.proofs.Owned.{used_further}
use Rattle.abc_outline.proofs.own.used_names.Goals as goal

pub loop-row-preserved : goal.loop-row-preserved
loop-row-preserved c =
    used_further c.args.own.now c.in-Some.row.now c.in-Some.below.now c.loop-row.ahead.now c.loop-row.used c.use_row.new.used _ c.in-Some.ensures.cases.0 c.loop-row.invariant c.in_ok-use_row.ensures
