use Rattle.std.proofs.Common.{◌≡◌, ◌++◌, length, take}
use Rattle.std.specs.List.{flat_map}
use Rattle.abc_record.specs.Bytes.{in_four}
use Rattle.abc_record.specs.Spelling.{spelled_change}
use Rattle.abc_record.proofs.writing.write_changes.Given as goal

abbrev pub invariant-loop-change : goal.invariant-loop-change
invariant-loop-change l = l.bytes.items ≡ in_four (length l.c) ++ flat_map spelled_change (take l.change-index l.c)
