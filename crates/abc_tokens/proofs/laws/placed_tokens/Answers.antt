use Rattle.abc_tokens.proofs.Placed.{placed_line}
use Rattle.abc_tokens.proofs.laws.placed_tokens.Goals as goal

pub returns : goal.returns
returns c = placed_line
