use Rattle.std.proofs.Common.{◌≡◌, map, take}
use Rattle.abc_groups.specs.Program.{texts}
use Rattle.abc_groups.specs.inner.Found.{name_of}
use Rattle.abc_groups.proofs.grouping.members.Given as goal

abbrev pub invariant-loop-i : goal.invariant-loop-i
invariant-loop-i l = texts l.all.items ≡ map (name_of (texts l.templates)) (take l.i-index l.row)
