use Rattle.std.proofs.Common.{take}
use Rattle.abc_principal.specs.Exact.{cuts_of}
use Rattle.abc_principal.specs.inner.Grouped.{AreFitted}
use Rattle.abc_principal.proofs.fitting.fit_members.Given as goal

abbrev pub invariant-loop-i : goal.invariant-loop-i
invariant-loop-i l = AreFitted (cuts_of l.members) l.known l.owns l.initial.g l.g l.initial.targets l.targets (take l.i (cuts_of l.members)) (take l.i l.owns)
