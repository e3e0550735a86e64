use Rattle.std.proofs.Common.{arith}
use Rattle.abc_check.proofs.Halving.{next_unit_line, upper_unit, lower_unit}
use Rattle.abc_check.proofs.checker.+unit_line_between.Goals as goal

pub returns-then-refused-taken-le1 : goal.returns-then-refused-taken-le1
returns-then-refused-taken-le1 t c = next_unit_line c.args.targets.now c.args.unit.now c.args.units.now c.args.taken c.args.refused (omega (arith, c.if-refused-taken-le1.true, c.requires))

pub returns-then-branch : goal.returns-then-branch
returns-then-branch t c =
    upper_unit c.args.targets.now c.args.unit.now c.args.units.now c.args.taken c.args.refused _ c.in_ok-fits_upto.field-0 c.in_ok-fits_upto.ensures c.unit_line_between.result c.if-branch.true c.unit_line_between.ensures

pub returns-else-branch : goal.returns-else-branch
returns-else-branch t c =
    lower_unit c.args.targets.now c.args.unit.now c.args.units.now c.args.taken c.args.refused _ c.in_ok-fits_upto.field-0 c.in_ok-fits_upto.ensures c.unit_line_between-else-branch.result (omega (arith, c.if-refused-taken-le1.false)) c.if-branch.false
    c.unit_line_between-else-branch.ensures
