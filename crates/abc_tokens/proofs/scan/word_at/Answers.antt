use Rattle.std.proofs.Common.{refl}
use Rattle.std.proofs.lemmas.List.{take_rest}
use Rattle.abc_tokens.proofs.TokenSteps.{read_word, read_other}
use Rattle.abc_tokens.proofs.scan.word_at.Goals as goal

pub returns-in-Some : goal.returns-in-Some
returns-in-Some c = read_word _ _ _ _ _ _ (take_rest c.args.line.now c.args.start) c.requires.starts c.requires.no_space c.requires.no_comment c.requires.no_quote
    c.in-Some.ensures.word c.in-Some.ensures.sized.0 c.in-Some.ensures.sized.1 refl c.is_sound.ensures

pub returns-in-None : goal.returns-in-None
returns-in-None c = read_other _ _ _ _ (take_rest c.args.line.now c.args.start) c.requires.starts c.requires.no_space c.requires.no_comment c.requires.no_quote
    c.in-None.ensures.word refl refl
