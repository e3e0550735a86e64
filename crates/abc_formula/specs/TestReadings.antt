-- The one test that tokens spell, computed. The law `computed_test` says that exactly what the grammar spells is found.
use Rattle.std.specs.Prelude.{ℕ, List, length, Option}
use Rattle.abc_num.specs.declared.limits.TheConstants.{MOST_BRACKETS}
use Rattle.abc_tree.specs.declared.formulas.Test.{Test}
use Rattle.abc_expressions.specs.declared.lexemes.Lexeme.{Lexeme}
use Rattle.abc_expressions.specs.inner.Machine.{reader}
use Rattle.abc_formula.specs.declared.test_frames.Place.TheVariants as place
use Rattle.abc_formula.specs.inner.TestMachine.{test_alone, test_in}

-- the test that all the tokens spell, however high
unfoldable pub test_of : List (List ℕ) → List Lexeme → Option Test
test_of own ts = test_alone (test_in (reader own MOST_BRACKETS) own (length ts) place.Whole MOST_BRACKETS ts)
