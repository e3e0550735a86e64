use Rattle.abc_tokens.proofs.ShapeLaws.{first_read}
use Rattle.abc_tokens.proofs.shaping.first_of.Goals as goal

pub returns-clause-first : goal.returns-clause-first
returns-clause-first c = first_read c.args.text.now c.in-Some.start c.in-Some-token_at.read c.in-Some.ensures.some c.in-Some-token_at.ensures.some
