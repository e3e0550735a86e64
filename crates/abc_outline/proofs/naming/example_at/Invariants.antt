use Rattle.std.proofs.Common.{◌≡◌, ◌+◌, length}
use Rattle.abc_outline.specs.LineNames.{ends_address}
use Rattle.abc_outline.specs.inner.Cutting.{first_from}
use Rattle.abc_outline.proofs.naming.example_at.Given as goal

abbrev pub invariant-loop-token : goal.invariant-loop-token
invariant-loop-token l = (first_from ends_address l.at l.ahead ≡ first_from ends_address 0 l.fn.tokens) × (l.at + length l.ahead ≡ length l.fn.tokens)

abbrev pub decreases-loop-token : goal.decreases-loop-token
decreases-loop-token l = length l.ahead
