use Rattle.std.proofs.Common.{ap}
use Rattle.abc_expressions.specs.declared.frames.Group.TheVariants as grp
use Rattle.abc_expressions.proofs.ReaderSteps.{opened_as}
use Rattle.abc_expressions.proofs.reading.Reader.wants.Goals as goal

pub returns-in-Opens-clause-steps : goal.returns-in-Opens-clause-steps
returns-in-Opens-clause-steps c here = rw c.in-Opens.is (opened_as (ap grp.Round c.new.ensures) here _ _ _ _ _ _ (c.open.ensures.steps here))

pub returns-in-Displays-clause-steps : goal.returns-in-Displays-clause-steps
returns-in-Displays-clause-steps c here = rw c.in-Displays.is (c.display.ensures.steps here)
