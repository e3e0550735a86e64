use Rattle.abc_expressions.proofs.FineTokens.{fine_line}
use Rattle.abc_formula.proofs.RegularTests.{bound_regular, low_test, spelled_test}
use Rattle.abc_formula.proofs.test_laws.spelled_tests.Goals as goal

pub returns-clause-parts : goal.returns-clause-parts
returns-clause-parts c own names counted d p a ts rest fine q fit =
    spelled_test names own counted (fine_line c.spelled_tokens.ensures c.computed_words.ensures.name) d p a ts rest fine q fit

pub returns-clause-low : goal.returns-clause-low
returns-clause-low c own names counted d a ts fine q fit low =
    low_test names own counted (fine_line c.spelled_tokens.ensures c.computed_words.ensures.name) d a ts fine q fit low

pub returns-clause-bound : goal.returns-clause-bound
returns-clause-bound c own names counted fewest d several ts rest p =
    bound_regular names own counted (fine_line c.spelled_tokens.ensures c.computed_words.ensures.name) fewest d several ts rest p
