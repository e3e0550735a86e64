use Rattle.std.proofs.Common.{◌≡◌, length}
use Rattle.abc_clauses.specs.Readings.{places_of}
use Rattle.abc_clauses.specs.inner.Views.{seen_command, with_places}
use Rattle.abc_clauses.proofs.headings.places.Given as goal

abbrev pub invariant-loop-token : goal.invariant-loop-token
invariant-loop-token l = with_places (seen_command l.title) (places_of l.own l.ahead) ≡ places_of l.own l.tokens

abbrev pub decreases-loop-token : goal.decreases-loop-token
decreases-loop-token l = length l.ahead
