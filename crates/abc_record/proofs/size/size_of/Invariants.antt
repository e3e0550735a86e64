use Rattle.std.proofs.Common.{◌≡◌, ◌+◌, ◌-◌, ◌^◌, min, length, take}
use Rattle.std.specs.List.{flat_map}
use Rattle.abc_record.specs.Spelling.{spelled_change}
use Rattle.abc_record.proofs.size.size_of.Given as goal

abbrev pub invariant-loop-change : goal.invariant-loop-change
invariant-loop-change l = l.size ≡ min (4 + length (flat_map spelled_change (take l.change-index l.c))) (2 ^ 64 - 1)
