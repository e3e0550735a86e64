use Rattle.std.proofs.Common.{◌≡◌, ◌≤◌, ◌+◌, ◌-◌, length, drop}
use Rattle.abc_tokens.specs.Scanned.{letter, tail_length}
use Rattle.abc_tokens.proofs.words.tail_length.Given as goal

abbrev pub invariant-loop-count : goal.invariant-loop-count
invariant-loop-count l = (l.count ≤ length l.bytes) × (l.count + tail_length (letter l.capital) (drop l.count l.bytes) ≡ tail_length (letter l.capital) l.bytes)

abbrev pub decreases-loop-count : goal.decreases-loop-count
decreases-loop-count l = length l.bytes - l.count
