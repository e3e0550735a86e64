use Rattle.std.proofs.Common.{◌-◌}
use Rattle.abc_value.specs.Items.{elements_of}
use Rattle.abc_predef.proofs.Halves.{Between}
use Rattle.abc_predef.proofs.trains.count_on.Given as goal

abbrev pub invariant-loop-low : goal.invariant-loop-low
invariant-loop-low l = Between l.side l.e (elements_of l.t) l.low l.high

abbrev pub decreases-loop-low : goal.decreases-loop-low
decreases-loop-low l = l.high - l.low
