use Rattle.std.proofs.Common.{length}
use Rattle.abc_tokens.proofs.LongestTexts.{conversion_front}
use Rattle.abc_tokens.proofs.laws.conversion_tokens.Goals as goal

pub returns : goal.returns
returns c bytes rest ns d = let f = conversion_front d in (f.front, (f.tokens (length f.front)).0, f.is, (f.tokens (length f.front)).1)
