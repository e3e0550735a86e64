-- The laws of formulas together.
use Rattle.std.proofs.Common.{◌≡◌, ℕ, List, [], Some}
use Rattle.std.specs.Prelude.{◌↔◌}
use Rattle.abc_num.specs.declared.limits.TheConstants.{MOST_BRACKETS}
use Rattle.abc_print.specs.Laws.{LinesAreComputed}
use Rattle.abc_tree.specs.declared.formulas.Expr.{Expr}
use Rattle.abc_tree.specs.declared.formulas.Test.{Test}
use Rattle.abc_expressions.specs.declared.lexemes.Lexeme.{Lexeme}
use Rattle.abc_expressions.specs.Addresses.{SpelledAddress}
use Rattle.abc_expressions.specs.Grammar.{Spells, Spelled}
use Rattle.abc_expressions.specs.Readings.{expression_of, single_of, address_of}
use Rattle.abc_formula.specs.TestGrammar.{Tests}
use Rattle.abc_formula.specs.TestReadings.{test_of}
use Rattle.abc_formula.specs.declared.test_frames.Place.TheVariants as place
use Rattle.abc_clauses.proofs.Commands.{Laws}

pub laws_of : ((own : List (List ℕ)) (ts : List Lexeme) (a : Expr) → Spelled own MOST_BRACKETS a ts [] ↔ (expression_of own ts ≡ Some a))
    → ((own : List (List ℕ)) (ts : List Lexeme) (a : Expr) → Spells own MOST_BRACKETS 1 a ts [] ↔ (single_of own ts ≡ Some a))
    → ((own : List (List ℕ)) (ts : List Lexeme) (a : Expr) → SpelledAddress own MOST_BRACKETS a ts [] ↔ (address_of own ts ≡ Some a))
    → ((own : List (List ℕ)) (ts : List Lexeme) (a : Test) → Tests own MOST_BRACKETS place.Whole a ts [] ↔ (test_of own ts ≡ Some a))
    → LinesAreComputed → (own : List (List ℕ)) → Laws own
laws_of expression single address test literal own = record { expression = expression own; single = single own; address = address own; test = test own; literal = literal }
