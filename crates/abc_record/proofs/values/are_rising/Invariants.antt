use Rattle.std.proofs.Common.{◌≡◌, ◌-◌, drop}
use Rattle.abc_record.specs.inner.Reading.{are_rising}
use Rattle.abc_record.proofs.values.are_rising.Given as goal

abbrev pub invariant-loop-i : goal.invariant-loop-i
invariant-loop-i l = are_rising (drop (l.i - 1) l.pairs) ≡ are_rising l.pairs
