use Rattle.std.proofs.Common.{◌≡◌, ◌+◌, length}
use Rattle.abc_clauses.specs.Cuts.{word_place}
use Rattle.abc_clauses.proofs.Places.{shifted}
use Rattle.abc_clauses.proofs.cuts.word_place.Given as goal

abbrev pub invariant-loop-token : goal.invariant-loop-token
invariant-loop-token l = (l.place + length l.ahead ≡ length l.tokens) × (shifted l.place (word_place l.word l.ahead) ≡ word_place l.word l.tokens)

abbrev pub decreases-loop-token : goal.decreases-loop-token
decreases-loop-token l = length l.ahead
