use Rattle.std.proofs.Common.{◌-◌}
use Rattle.abc_check.proofs.types.UnitTypes.+line_between.Given as goal

abbrev pub decreases-line_between : goal.decreases-line_between
decreases-line_between l = l.refused - l.taken
