use Rattle.std.proofs.Common.{◌≡◌, ◌-◌}
use Rattle.abc_record.specs.inner.Reading.{leading}
use Rattle.abc_record.proofs.Leading.{joined}
use Rattle.abc_record.proofs.reading.leading.Given as goal

abbrev pub invariant-loop : goal.invariant-loop
invariant-loop l = joined l.changes.items (leading (l.count - l.counter) l.rest) ≡ leading l.count l.bytes
