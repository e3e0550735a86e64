use Rattle.std.proofs.Common.{take}
use Rattle.abc_principal.specs.inner.Grouped.{AreVarsOf}
use Rattle.abc_principal.proofs.reading.vars_of.Given as goal

abbrev pub invariant-loop-i : goal.invariant-loop-i
invariant-loop-i l = AreVarsOf l.targets (take l.i l.names) l.vars.items
