use Rattle.std.proofs.Common.{ap}
use Rattle.abc_expressions.specs.declared.frames.Group.TheVariants as grp
use Rattle.abc_expressions.proofs.ReaderSteps.{opened_as}
use Rattle.abc_expressions.proofs.reading.Reader.go_on.Goals as goal

pub returns-in-Selects-clause-steps : goal.returns-in-Selects-clause-steps
returns-in-Selects-clause-steps c here = rw c.in-Selects.is (opened_as (ap (grp.Select c.args.a) c.new.ensures) here _ _ _ _ _ _ (c.open.ensures.steps here))
