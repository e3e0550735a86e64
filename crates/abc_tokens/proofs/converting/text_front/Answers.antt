use Rattle.abc_tokens.proofs.ConversionSteps.{text_first, open_first}
use Rattle.abc_tokens.proofs.converting.text_front.Goals as goal

pub returns-in-Some : goal.returns-in-Some
returns-in-Some c = (c.in-Some.ensures.some.further, text_first c.args.bytes.now c.requires.some c.requires.quote c.in-Some.text c.in-Some.ensures.some)

pub returns-in-None : goal.returns-in-None
returns-in-None c = open_first c.args.bytes.now c.requires.some c.requires.quote c.in-None.ensures.none
