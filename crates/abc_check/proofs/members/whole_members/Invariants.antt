use Rattle.std.proofs.Common.{◌≡◌, ◌-◌, length, take}
use Rattle.abc_ground.specs.Groups.{whole}
use Rattle.abc_principal.specs.Exact.{cuts_of}
use Rattle.abc_check.proofs.members.whole_members.Given as goal

abbrev pub invariant-loop-unit : goal.invariant-loop-unit
invariant-loop-unit l = cuts_of l.members.items ≡ whole (take (length l.members.items) l.units)

abbrev pub decreases-loop-unit : goal.decreases-loop-unit
decreases-loop-unit l = length l.units - length l.members.items
