use Rattle.std.proofs.Common.{refl}
use Rattle.abc_tokens.proofs.TokenSteps.{read_text, at_open}
use Rattle.abc_tokens.proofs.scan.text_at.Goals as goal

pub returns-in_default-clause-none : goal.returns-in_default-clause-none
returns-in_default-clause-none c loose = at_open loose c.args.line.now c.args.start c.requires.starts c.requires.no_space c.requires.no_comment c.requires.quote c.in_default.ensures.none

pub returns-clause-some : goal.returns-clause-some
returns-clause-some c = read_text _ _ _ _ c.requires.starts c.requires.no_space c.requires.no_comment c.requires.quote c.in-Some.ensures.some refl refl
