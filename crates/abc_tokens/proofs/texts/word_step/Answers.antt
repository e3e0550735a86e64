use Rattle.std.proofs.Common.{refl}
use Rattle.abc_tokens.proofs.TextLoop.{word_found}
use Rattle.abc_tokens.proofs.texts.word_step.Goals as goal

pub returns-in-Some : goal.returns-in-Some
returns-in-Some c = word_found _ _ _ c.in-Some.ensures.word c.in-Some.ensures.sized.0 c.in-Some.ensures.sized.1 refl c.is_sound.ensures
