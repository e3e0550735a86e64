-- Worked tests, by computing. The own names are x and t.
use Rattle.std.specs.Prelude.{◌≡◌, ℕ, List, [], ◌∷◌, length, Option, Some, None, codes, pos, refl}
use Rattle.abc_num.specs.Number.{fraction}
use Rattle.abc_tokens.specs.Scanned as scanned
use Rattle.abc_tree.specs.declared.formulas.Expr.{Expr}
use Rattle.abc_tree.specs.declared.formulas.Expr.TheVariants as e
use Rattle.abc_tree.specs.declared.formulas.Test.{Test}
use Rattle.abc_tree.specs.declared.formulas.Test.TheVariants as test
use Rattle.abc_tree.specs.declared.operations.Op.TheVariants as op
use Rattle.abc_expressions.specs.declared.lexemes.Lexeme.{Lexeme}
use Rattle.abc_formula.specs.declared.test_frames.Place.TheVariants as place
use Rattle.abc_expressions.specs.Grammar.{own_name}
use Rattle.abc_expressions.specs.Operators.{kind_of}
use Rattle.abc_expressions.specs.inner.Numbers.{number_at, gcd_within, gcd, ratio}
use Rattle.abc_expressions.specs.inner.Machine.{converter, reader, run, popped, finished, reach, lexed, has_bare, conversion_from, split}
use Rattle.abc_formula.specs.TestGrammar.{link}
use Rattle.abc_formula.specs.inner.TestMachine.{links_in, test_alone, test_in}

abbrev whole : ℕ → Expr
whole n = e.Number (fraction (pos n) 1)

abbrev test_of : Option (List Lexeme) → Option Test
test_of None = None
test_of (Some ts) = test_alone (test_in (reader (codes "x" ∷ codes "t" ∷ []) 100) (codes "x" ∷ codes "t" ∷ []) (length ts) place.Whole 100 ts)

abbrev equal : Expr → Expr → Test
equal a b = test.Chain a (link op.Equal b ∷ [])

-- AND and OR don't stand side by side
and_or_mixed : test_of (lexed (codes "x=1 AND t=2 OR x=3")) ≡ None
unfolding test_in links_in run popped finished reach kind_of converter lexed has_bare conversion_from split number_at ratio gcd gcd_within scanned.scanned scanned.word_in_front scanned.ending
and_or_mixed = refl

-- a parenthesis that ends within a part is one of its expression
round_first : test_of (lexed (codes "(1)=1 AND (x=2)")) ≡ Some (test.And (equal (whole 1) (whole 1)) (equal (own_name 0) (whole 2)))
unfolding test_in links_in run popped finished reach kind_of converter lexed has_bare conversion_from split number_at ratio gcd gcd_within scanned.scanned scanned.word_in_front scanned.ending
round_first = refl

-- nothing is joined to a part behind NOT
not_and : test_of (lexed (codes "NOT x=1 AND t=2")) ≡ None
unfolding test_in links_in run popped finished reach kind_of converter lexed has_bare conversion_from split number_at ratio gcd gcd_within scanned.scanned scanned.word_in_front scanned.ending
not_and = refl
