use Rattle.abc_tokens.proofs.LongestTexts.{longest_text}
use Rattle.abc_tokens.proofs.laws.longest_text.Goals as goal

pub returns : goal.returns
returns c = longest_text
