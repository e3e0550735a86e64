use Rattle.abc_tokens.proofs.WordKinds.{name_found, name_told, keyword_found, keyword_told}
use Rattle.abc_tokens.proofs.laws.computed_words.Goals as goal

pub returns-clause-name : goal.returns-clause-name
returns-clause-name c bytes = (name_found bytes, name_told bytes)

pub returns-clause-keyword : goal.returns-clause-keyword
returns-clause-keyword c bytes = (keyword_found bytes, keyword_told bytes)
