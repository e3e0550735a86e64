use Rattle.std.proofs.Common.{◌≡◌, take}
use Rattle.std.specs.Prelude.{[]}
use Rattle.abc_outline.specs.OwnNames.{name_kinds}
use Rattle.abc_outline.proofs.kinds.no_kinds.Given as goal

abbrev pub invariant-loop-i : goal.invariant-loop-i
invariant-loop-i l = l.kinds.items ≡ name_kinds (take l.i l.fn.names) []
