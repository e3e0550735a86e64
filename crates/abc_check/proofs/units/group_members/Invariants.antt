use Rattle.std.proofs.Common.{take}
use Rattle.abc_principal.specs.Exact.{cuts_of}
use Rattle.abc_check.specs.inner.Groupwise.{AreFound}
use Rattle.abc_check.proofs.units.group_members.Given as goal

abbrev pub invariant-loop-t : goal.invariant-loop-t
invariant-loop-t l = AreFound (cuts_of l.members) (take l.t-index l.templates) (cuts_of l.group.items)
