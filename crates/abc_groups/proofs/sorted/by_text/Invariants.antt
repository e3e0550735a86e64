use Rattle.std.proofs.Common.{take}
use Rattle.abc_groups.specs.Program.{texts}
use Rattle.abc_groups.specs.inner.Sorted.{IsByText}
use Rattle.abc_groups.proofs.sorted.by_text.Given as goal

abbrev pub invariant-loop-t : goal.invariant-loop-t
invariant-loop-t l = IsByText (texts (take l.t-index l.templates)) l.named.entries
