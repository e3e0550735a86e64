use Rattle.std.proofs.Common.{◌≡◌, length}
use Rattle.abc_outline.specs.LineNames.{behind, is_in}
use Rattle.abc_outline.proofs.naming.behind_in.Given as goal

abbrev pub invariant-loop-token : goal.invariant-loop-token
invariant-loop-token l = behind is_in l.ahead ≡ behind is_in l.fn.tokens

abbrev pub decreases-loop-token : goal.decreases-loop-token
decreases-loop-token l = length l.ahead
