use Rattle.abc_tokens.proofs.WordKinds.{spelled_line}
use Rattle.abc_tokens.proofs.laws.spelled_tokens.Goals as goal

pub returns : goal.returns
returns c = spelled_line
