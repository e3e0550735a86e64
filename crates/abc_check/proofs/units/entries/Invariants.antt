use Rattle.std.proofs.Common.{◌≡◌, take}
use Rattle.abc_principal.specs.Exact.{cuts_of}
use Rattle.abc_check.specs.Cuts.{entries_in}
use Rattle.abc_check.proofs.units.entries.Given as goal

abbrev pub invariant-loop-member : goal.invariant-loop-member
invariant-loop-member l = l.graph.items ≡ entries_in (cuts_of (take l.member-index l.members))
