use Rattle.std.proofs.Common.{length, false}
use Rattle.abc_tokens.proofs.TokenLaws.{found, are_tokens}
use Rattle.abc_tokens.proofs.laws.one_reading.Goals as goal

pub returns : goal.returns
returns c line ts ns = (found false (length line), are_tokens false (length line) line ts ns)
