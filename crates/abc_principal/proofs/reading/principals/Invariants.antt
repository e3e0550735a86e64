use Rattle.std.proofs.Common.{take}
use Rattle.abc_principal.specs.Exact.{cuts_of}
use Rattle.abc_principal.specs.inner.Grouped.{AreRead}
use Rattle.abc_principal.proofs.reading.principals.Given as goal

abbrev pub invariant-loop-i : goal.invariant-loop-i
invariant-loop-i l = AreRead l.g l.targets (take l.i (cuts_of l.members)) (take l.i l.owns) l.all.items
