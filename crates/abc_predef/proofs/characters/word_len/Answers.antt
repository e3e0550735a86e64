use Rattle.std.proofs.Common.{sym, ◌∙◌}
use Rattle.abc_predef.proofs.Words.{position_none}
use Rattle.abc_predef.proofs.characters.word_len.Goals as goal

pub returns-in-None-clause-length : goal.returns-in-None-clause-length
returns-in-None-clause-length c = position_none c.args.b.now (sym c.first_space.ensures ∙ c.in-None.is)
