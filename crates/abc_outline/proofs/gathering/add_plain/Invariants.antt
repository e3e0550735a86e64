use Rattle.std.proofs.Common.{◌≡◌, ◌++◌, length}
use Rattle.abc_formula.specs.BoundFronts.{plain_names}
use Rattle.abc_outline.proofs.gathering.add_plain.Given as goal

abbrev pub invariant-loop-token : goal.invariant-loop-token
invariant-loop-token l = l.names ++ plain_names l.ahead ≡ l.fn.names ++ plain_names l.fn.tokens

abbrev pub decreases-loop-token : goal.decreases-loop-token
decreases-loop-token l = length l.ahead
