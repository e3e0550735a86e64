use Rattle.std.proofs.Common.{◌≡◌, length}
use Rattle.abc_clauses.specs.Readings.{shared_of}
use Rattle.abc_clauses.specs.inner.Views.{with_names}
use Rattle.abc_clauses.proofs.lines.shared.Given as goal

abbrev pub invariant-loop-token : goal.invariant-loop-token
invariant-loop-token l = with_names l.names (shared_of l.ahead) ≡ shared_of l.tokens

abbrev pub decreases-loop-token : goal.decreases-loop-token
decreases-loop-token l = length l.ahead
