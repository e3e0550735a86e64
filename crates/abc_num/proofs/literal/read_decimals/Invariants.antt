use Rattle.std.proofs.Common.{◌≤◌, drop, length}
use Rattle.abc_num.specs.Literal.{SpellsFraction}
use Rattle.abc_num.proofs.literal.read_decimals.Given as goal

abbrev pub invariant-loop-left : goal.invariant-loop-left
invariant-loop-left l = (l.left ≤ length l.b) × SpellsFraction (drop l.left l.b) l.top l.bottom

abbrev pub decreases-loop-left : goal.decreases-loop-left
decreases-loop-left l = l.left
