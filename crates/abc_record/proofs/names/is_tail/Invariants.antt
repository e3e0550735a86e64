use Rattle.std.proofs.Common.{◌≡◌, length}
use Rattle.abc_record.specs.KeptTests.{is_tail}
use Rattle.abc_record.proofs.names.is_tail.Given as goal

abbrev pub invariant-loop-more : goal.invariant-loop-more
invariant-loop-more l = is_tail l.rest ≡ is_tail l.bytes

abbrev pub decreases-loop-more : goal.decreases-loop-more
decreases-loop-more l = length l.rest
