-- The test that is computed is the one that is spelled.
use Rattle.std.proofs.Common.{◌≡◌, ℕ, List, [], ◌∷◌, length, Some, None, ap, arith}
use Rattle.std.specs.Prelude.{◌↔◌}
use Rattle.abc_num.specs.declared.limits.TheConstants.{MOST_BRACKETS}
use Rattle.abc_tree.specs.declared.formulas.Test.{Test}
use Rattle.abc_expressions.specs.declared.lexemes.Lexeme.{Lexeme}
use Rattle.abc_formula.specs.declared.test_frames.Place.TheVariants as place
use Rattle.abc_expressions.specs.inner.Machine.{reader}
use Rattle.abc_tokens.proofs.Faults.{OneReading}
use Rattle.abc_formula.specs.TestGrammar.{Tests}
use Rattle.abc_formula.specs.TestReadings.{test_of}
use Rattle.abc_formula.specs.inner.TestMachine.{FoundTest, test_alone, test_in}
use Rattle.abc_formula.proofs.TestComplete.{complete_test}
use Rattle.abc_formula.proofs.TestSound.{reads_test}

pub alone_some : (found : FoundTest) (a : Test) → test_alone found ≡ Some a → (let whole : FoundTest = Some (a, []) in found ≡ whole)
alone_some None a h = cc
alone_some (Some (x, [])) a h = ap (λ (y : Test). with_none y) (first h)
  where
    with_none : Test → FoundTest
    with_none y = Some (y, [])

    first : Some x ≡ Some a → x ≡ a
    first h = cc
alone_some (Some (x, token ∷ ts)) a h = cc

module _ (law : OneReading) (own : List (List ℕ)) (d : ℕ) (ts : List Lexeme) (a : Test) where
  test_exact : Tests own d place.Whole a ts [] ↔ (test_alone (test_in (reader own d) own (length ts) place.Whole d ts) ≡ Some a)
  test_exact = (
    λ p. ap test_alone (complete_test law own d p (length ts) (omega arith) (omega arith) tt),
    λ e. reads_test law own d (length ts) place.Whole d ts [] a (alone_some (test_in (reader own d) own (length ts) place.Whole d ts) a e),
  )

pub is_test_of : OneReading → (own : List (List ℕ)) (ts : List Lexeme) (a : Test) → Tests own MOST_BRACKETS place.Whole a ts [] ↔ (test_of own ts ≡ Some a)
unfolding test_of
is_test_of law own ts a = test_exact law own MOST_BRACKETS ts a
