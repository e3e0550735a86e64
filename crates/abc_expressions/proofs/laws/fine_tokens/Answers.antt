use Rattle.abc_expressions.proofs.FineTokens.{fine_part}
use Rattle.abc_expressions.proofs.laws.fine_tokens.Goals as goal

pub returns : goal.returns
returns c line ts part = fine_part c.spelled_tokens.ensures c.computed_words.ensures.name line ts part
