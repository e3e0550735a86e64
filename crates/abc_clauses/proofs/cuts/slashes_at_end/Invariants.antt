use Rattle.std.proofs.Common.{◌≡◌, ◌+◌, length}
use Rattle.std.specs.Prelude.{reverse}
use Rattle.abc_clauses.specs.Cuts.{count_slashes}
use Rattle.abc_clauses.proofs.cuts.slashes_at_end.Given as goal

abbrev pub invariant-loop-last : goal.invariant-loop-last
invariant-loop-last l = (l.count + length l.ahead ≡ length l.tokens) × (l.count + count_slashes (reverse l.ahead) ≡ count_slashes (reverse l.tokens))

abbrev pub decreases-loop-last : goal.decreases-loop-last
decreases-loop-last l = length l.ahead
