use Rattle.std.proofs.Common.{◌-◌}
use Rattle.abc_check.proofs.checker.+unit_line_between.Given as goal

abbrev pub decreases-unit_line_between : goal.decreases-unit_line_between
decreases-unit_line_between l = l.refused - l.taken
