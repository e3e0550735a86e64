use Rattle.std.proofs.Common.{◌-◌}
use Rattle.abc_predef.proofs.Finding.{Between}
use Rattle.abc_predef.proofs.table.Rows.find.Given as goal

abbrev pub invariant-loop-low : goal.invariant-loop-low
invariant-loop-low g l = Between (l.name, l.places) l.self.rows l.low l.high

abbrev pub decreases-loop-low : goal.decreases-loop-low
decreases-loop-low g l = l.high - l.low
