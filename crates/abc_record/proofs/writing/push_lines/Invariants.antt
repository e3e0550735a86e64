use Rattle.std.proofs.Common.{◌≡◌, ◌++◌, length, take}
use Rattle.std.specs.List.{flat_map}
use Rattle.abc_record.specs.Bytes.{in_four}
use Rattle.abc_record.specs.Spelling.{spelled_line}
use Rattle.abc_record.proofs.writing.push_lines.Given as goal

abbrev pub invariant-loop-line : goal.invariant-loop-line
invariant-loop-line l = l.bytes.items ≡ l.fn.bytes.items ++ in_four (length l.lines) ++ flat_map spelled_line (take l.line-index l.lines)
