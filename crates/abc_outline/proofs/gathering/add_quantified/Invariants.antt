use Rattle.std.proofs.Common.{◌≡◌, ◌++◌, length}
use Rattle.abc_outline.specs.LineNames.{quantified}
use Rattle.abc_outline.specs.inner.Scanning.{ins}
use Rattle.std.specs.Prelude.{false}
use Rattle.abc_outline.proofs.gathering.add_quantified.Given as goal

abbrev pub invariant-loop-token : goal.invariant-loop-token
invariant-loop-token l = (l.binding.left ≡ ins l.ahead) × (l.names ++ quantified l.binding.begun l.ahead ≡ l.fn.names ++ quantified false l.fn.tokens)

abbrev pub decreases-loop-token : goal.decreases-loop-token
decreases-loop-token l = length l.ahead
