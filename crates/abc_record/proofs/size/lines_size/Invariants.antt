use Rattle.std.proofs.Common.{◌≡◌, ◌≤◌, ◌+◌, ◌*◌, length, take}
use Rattle.std.specs.List.{flat_map}
use Rattle.abc_record.specs.Spelling.{spelled_line}
use Rattle.abc_record.proofs.size.lines_size.Given as goal

abbrev pub invariant-loop-line : goal.invariant-loop-line
invariant-loop-line l = record {
  size : l.size ≡ 4 + length (flat_map spelled_line (take l.line-index l.lines));
  bound : l.size ≤ 4 + l.line-index * 5000;
}
