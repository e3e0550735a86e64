use Rattle.std.proofs.Common.{take}
use Rattle.abc_principal.specs.TargetVars.{AreNamed}
use Rattle.abc_principal.proofs.naming.target_vars.Given as goal

abbrev pub invariant-loop-name : goal.invariant-loop-name
invariant-loop-name l = AreNamed l.initial.g l.g l.initial.targets l.targets (take l.name-index l.names) l.vars.items
