use Rattle.std.proofs.Common.{ap, ◌∷◌, ◌∙◌}
use Rattle.abc_expressions.specs.declared.frames.Frame.TheVariants as f
use Rattle.abc_expressions.specs.declared.frames.Group.TheVariants as grp
use Rattle.abc_expressions.proofs.ReaderSteps.{wanted_as}
use Rattle.abc_expressions.proofs.reading.Reader.first_fill.Goals as goal

pub returns-clause-steps : goal.returns-clause-steps
returns-clause-steps c here = wanted_as here c.args.operand c.args.self.now.left 1 _ _ c.wants.result c.wants.new.self.left c.wants.new.self.stack (c.in_ok-push.ensures.ok ∙ ap (λ fills. f.Inside c.args.least (grp.Fill fills) ∷ c.args.self.now.stack) c.new.ensures) (c.wants.ensures.steps here)
