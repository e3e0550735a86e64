use Rattle.std.proofs.Common.{map}
use Rattle.abc_groups.specs.Program.{texts}
use Rattle.abc_principal.specs.Exact.{cuts_of}
use Rattle.abc_check.specs.Cuts.{CutsAreSpelled}
use Rattle.abc_check.specs.inner.Groupwise.{KnowsGroups}
use Rattle.abc_check.proofs.units.known_units.Given as goal

abbrev pub invariant-loop-group : goal.invariant-loop-group
invariant-loop-group l = CutsAreSpelled (cuts_of l.members) → KnowsGroups (cuts_of l.members) (map texts l.group-items) l.group-index l.known
