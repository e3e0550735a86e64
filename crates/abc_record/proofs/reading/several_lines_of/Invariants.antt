use Rattle.std.proofs.Common.{◌≡◌, ◌-◌}
use Rattle.abc_record.specs.inner.Reading.{times, line_of}
use Rattle.abc_record.proofs.Times.{with_front}
use Rattle.abc_record.proofs.reading.several_lines_of.Given as goal

abbrev pub invariant-loop : goal.invariant-loop
invariant-loop l = with_front l.lines.items (times line_of (l.count - l.counter) l.rest) ≡ times line_of l.count l.bytes
