use Rattle.std.proofs.Common.{arith}
use Rattle.abc_record.proofs.Weights.{all_long}
use Rattle.abc_record.proofs.size.size_of.Goals as goal

pub returns : goal.returns
returns c = omega (arith, c.loop-change.invariant, all_long c.args.c.now c.loop-change.change-index (omega arith))
