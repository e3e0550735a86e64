use Rattle.std.proofs.Common.{◌<◌, ◌^◌, ◌↔◌}
use Rattle.std.specs.Int.{◌∣◌}
use Rattle.abc_num.proofs.rounding.divides_power.Given as goal

abbrev pub invariant-loop-left : goal.invariant-loop-left
invariant-loop-left l = (0 < l.left) × ((l.number ∣ (10 ^ l.exponent)) ↔ (l.left ∣ (10 ^ l.turns)))

abbrev pub decreases-loop-left : goal.decreases-loop-left
decreases-loop-left l = l.turns
