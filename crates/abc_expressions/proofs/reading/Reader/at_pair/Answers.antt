use Rattle.std.proofs.Common.{ap}
use Rattle.abc_expressions.specs.declared.frames.Group.TheVariants as grp
use Rattle.abc_expressions.proofs.ReaderSteps.{opened_as}
use Rattle.abc_expressions.proofs.reading.Reader.at_pair.Goals as goal

pub returns-in-Bracket-clause-steps : goal.returns-in-Bracket-clause-steps
returns-in-Bracket-clause-steps c here = rw c.in-Bracket.is (opened_as (ap (grp.Key c.args.pairs) c.new.ensures) here _ _ _ _ _ _ (c.open.ensures.steps here))
