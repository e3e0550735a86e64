use Rattle.abc_tokens.proofs.TextLoop.{read_out}
use Rattle.abc_tokens.proofs.texts.text_end.Goals as goal

pub returns-clause-none : goal.returns-clause-none
returns-clause-none c = read_out _ _ _ _ c.loop-here.invariant c.loop-here-test.false
