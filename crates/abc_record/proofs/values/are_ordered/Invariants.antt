use Rattle.std.proofs.Common.{◌≡◌, ◌-◌, drop}
use Rattle.abc_record.specs.inner.Reading.{are_ordered}
use Rattle.abc_record.proofs.values.are_ordered.Given as goal

abbrev pub invariant-loop-i : goal.invariant-loop-i
invariant-loop-i l = are_ordered (drop (l.i - 1) l.elements) ≡ are_ordered l.elements
