use Rattle.std.proofs.Common.{[]}
use Rattle.abc_num.specs.declared.limits.TheConstants.{MOST_BRACKETS}
use Rattle.abc_expressions.proofs.Spelled.{is_true, is_of_none}
use Rattle.abc_formula.specs.TestGrammar.{Tests}
use Rattle.abc_formula.specs.TestReadings.{test_of}
use Rattle.abc_formula.specs.declared.test_frames.Place.TheVariants as place
use Rattle.abc_formula.proofs.TestAnswers.{is_test_of}
use Rattle.abc_formula.proofs.whole_tests.whole_test.Goals as goal

pub returns-clause-found : goal.returns-clause-found
returns-clause-found c =
    is_true (λ a. Tests c.args.own.now MOST_BRACKETS place.Whole a c.args.tokens.now []) (test_of c.args.own.now c.args.tokens.now) (is_test_of c.one_reading.ensures c.args.own.now c.args.tokens.now)
    c.test_of_all.result c.test_of_all.ensures

pub returns-clause-none : goal.returns-clause-none
returns-clause-none c =
    is_of_none (λ a. Tests c.args.own.now MOST_BRACKETS place.Whole a c.args.tokens.now []) (test_of c.args.own.now c.args.tokens.now) (is_test_of c.one_reading.ensures c.args.own.now c.args.tokens.now)
    c.test_of_all.result c.test_of_all.ensures
