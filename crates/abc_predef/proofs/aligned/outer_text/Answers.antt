use Rattle.abc_value.proofs.printed.Outers.{outer_characters}
use Rattle.abc_predef.proofs.aligned.outer_text.Goals as goal

pub returns-in-Ok-clause-characters : goal.returns-in-Ok-clause-characters
returns-in-Ok-clause-characters c = outer_characters c.args.x.now c.height-height.ensures.regular

pub returns-in-Err-TooLong-clause-characters : goal.returns-in-Err-TooLong-clause-characters
returns-in-Err-TooLong-clause-characters c = outer_characters c.args.x.now c.height-height.ensures.regular

pub returns-in-Err-Memory-clause-characters : goal.returns-in-Err-Memory-clause-characters
returns-in-Err-Memory-clause-characters c = outer_characters c.args.x.now c.height-height.ensures.regular
