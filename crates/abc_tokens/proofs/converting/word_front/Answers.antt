use Rattle.std.proofs.Common.{sym, arith}
use Rattle.abc_tokens.proofs.ConversionSteps.{word_first, other_first}
use Rattle.abc_tokens.proofs.converting.word_front.Goals as goal

pub returns-in-Some : goal.returns-in-Some
returns-in-Some c = (
  c.in-Some.ensures.sized.0,
  word_first c.args.bytes.now c.requires.some c.requires.no_space c.requires.no_comment c.requires.no_end c.requires.no_quote c.in-Some.word.kind c.in-Some.word.length c.is_sound.result
      (sym c.in-Some.ensures.word) c.in-Some.ensures.sized.1 c.is_sound.ensures,
)

pub returns-in-None : goal.returns-in-None
returns-in-None c = (
  omega arith,
  other_first c.args.bytes.now c.requires.some c.requires.no_space c.requires.no_comment c.requires.no_end c.requires.no_quote (sym c.in-None.ensures.word),
)
