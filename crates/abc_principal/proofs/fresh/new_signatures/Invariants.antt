use Rattle.std.proofs.Common.{take}
use Rattle.abc_principal.specs.Exact.{cuts_of}
use Rattle.abc_principal.specs.inner.Grouped.{AreSignatures}
use Rattle.abc_principal.proofs.fresh.new_signatures.Given as goal

abbrev pub invariant-loop-i : goal.invariant-loop-i
invariant-loop-i l = AreSignatures l.initial.g l.g (take l.i (cuts_of l.members)) l.owns.items
