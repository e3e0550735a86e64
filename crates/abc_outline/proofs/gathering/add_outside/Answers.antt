use Rattle.abc_outline.proofs.Gathered.{outside_ended}
use Rattle.abc_outline.proofs.gathering.add_outside.Goals as goal

pub returns : goal.returns
returns c = outside_ended c.loop-token.ahead.now c.args.tokens.now c.loop-token.depth c.args.names.now c.loop-token.names c.in_default.ensures.cases c.loop-token.invariant.0
