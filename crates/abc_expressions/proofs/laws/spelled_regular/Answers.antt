use Rattle.abc_expressions.proofs.FineTokens.{fine_line}
use Rattle.abc_expressions.proofs.RegularSpellings.{spelled_regular, spells_regular}
use Rattle.abc_expressions.proofs.laws.spelled_regular.Goals as goal

pub returns-clause-all : goal.returns-clause-all
returns-clause-all c own names counted d a ts fine p vs =
    spelled_regular names own counted (fine_line c.spelled_tokens.ensures c.computed_words.ensures.name) d a ts fine p vs

pub returns-clause-single : goal.returns-clause-single
returns-clause-single c own names counted d a ts rest fine p vs =
    (spells_regular names own counted (fine_line c.spelled_tokens.ensures c.computed_words.ensures.name) d 1 a ts rest fine p).0 vs
