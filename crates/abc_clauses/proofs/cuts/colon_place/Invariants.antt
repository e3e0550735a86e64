use Rattle.std.proofs.Common.{◌≡◌, ◌≤◌, ◌+◌, length}
use Rattle.abc_clauses.specs.Cuts.{colon_place}
use Rattle.abc_clauses.proofs.Places.{shifted}
use Rattle.abc_clauses.proofs.cuts.colon_place.Given as goal

abbrev pub invariant-loop-token : goal.invariant-loop-token
invariant-loop-token l = (l.place + length l.ahead ≡ length l.tokens) × (l.depth ≤ l.place) × (shifted l.place (colon_place l.depth l.ahead) ≡ colon_place 0 l.tokens)

abbrev pub decreases-loop-token : goal.decreases-loop-token
decreases-loop-token l = length l.ahead
