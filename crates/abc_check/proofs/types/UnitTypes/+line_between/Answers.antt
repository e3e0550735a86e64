use Rattle.std.proofs.Common.{arith}
use Rattle.abc_check.proofs.Halving.{next_line, upper_found, lower_found}
use Rattle.abc_check.proofs.types.UnitTypes.+line_between.Goals as goal

pub returns-then-refused-taken-eq1-clause-line : goal.returns-then-refused-taken-eq1-clause-line
returns-then-refused-taken-eq1-clause-line t c = next_line c.args.self.now c.args.command.now c.args.taken c.args.refused (omega (arith, c.if-refused-taken-eq1.true, c.requires.order))

pub returns-then-branch-clause-line : goal.returns-then-branch-clause-line
returns-then-branch-clause-line t c =
    upper_found c.line_between.result c.args.self.now c.takes.new.self c.args.command.now c.args.taken _ c.args.refused c.in_ok-takes.field-0 c.takes.ensures.kept c.if-branch.true c.in_ok-takes.ensures.exact c.line_between.ensures.line

pub returns-else-branch-clause-line : goal.returns-else-branch-clause-line
returns-else-branch-clause-line t c =
    lower_found c.line_between-else-branch.result c.args.self.now c.takes.new.self c.args.command.now c.args.taken _ c.args.refused c.in_ok-takes.field-0 c.takes.ensures.kept c.if-branch.false c.in_ok-takes.ensures.exact c.line_between-else-branch.ensures.line
