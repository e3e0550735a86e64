use Rattle.std.proofs.Common.{◌≡◌, length}
use Rattle.abc_outline.specs.LineNames.{behind, is_from}
use Rattle.abc_outline.proofs.naming.behind_from.Given as goal

abbrev pub invariant-loop-token : goal.invariant-loop-token
invariant-loop-token l = behind is_from l.ahead ≡ behind is_from l.fn.tokens

abbrev pub decreases-loop-token : goal.decreases-loop-token
decreases-loop-token l = length l.ahead
