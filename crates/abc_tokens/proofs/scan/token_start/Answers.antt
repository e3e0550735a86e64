use Rattle.std.proofs.Common.{◌∙◌, arith}
use Rattle.abc_tokens.proofs.TokenSteps.{at_comment, at_space, at_end}
use Rattle.abc_tokens.proofs.scan.token_start.Goals as goal

pub returns-then-line-start-eq92-clause-none : goal.returns-then-line-start-eq92-clause-none
returns-then-line-start-eq92-clause-none c loose = c.loop-start.invariant.2 loose ∙ at_comment loose c.args.line.now c.loop-start.start c.loop-start-test.true c.if-line-start-eq92.true

pub loop-start-preserved : goal.loop-start-preserved
loop-start-preserved c = (
  omega arith,
  omega arith,
  λ loose. c.loop-start.invariant.2 loose ∙ at_space loose c.args.line.now c.loop-start.start c.loop-start-test.true c.if-line-start-ne32.false,
)

pub returns-clause-none : goal.returns-clause-none
returns-clause-none c loose = c.loop-start.invariant.2 loose ∙ at_end loose c.args.line.now c.loop-start.start c.loop-start-test.false
