use Rattle.std.proofs.Common.{◌≡◌, Result, Err, [], List, ◌∙◌, subst}
use Rattle.std.proofs.lemmas.Result.{err_from_is_err_and}
use Rattle.abc_num.specs.declared.limits.TheConstants.{MOST_BRACKETS}
use Rattle.abc_tree.specs.declared.formulas.Test.{Test}
use Rattle.abc_expressions.specs.declared.fault.FormulaFault.{FormulaFault}
use Rattle.abc_expressions.specs.declared.fault.FormulaFault.TheVariants as fault
use Rattle.abc_expressions.specs.declared.lexemes.Lexeme.{Lexeme}
use Rattle.abc_expressions.proofs.TokenParts.{within_part}
use Rattle.abc_formula.specs.TestGrammar.{Tests}
use Rattle.abc_formula.specs.declared.test_frames.Place.TheVariants as place
use Rattle.abc_formula.proofs.whole_tests.test.Goals as goal

pub lexemes_of-requires : goal.lexemes_of-requires
lexemes_of-requires c = within_part c.args.line.now c.args.toks.now c.requires

pub returns-in_err-tree-clause-none : goal.returns-in_err-tree-clause-none
returns-in_err-tree-clause-none c =
    let p = err_from_is_err_and c.from_residual-in_err-tree.result c.from_residual-in_err-tree.ensures.1 in
    let r : Result Test FormulaFault = Err c.in_err-tree.field-0.0 in
    rw (p.1, p.2) (subst (λ (ts : List Lexeme). r ≡ Err fault.BadCommand → (a : Test) → Tests c.args.own.now MOST_BRACKETS place.Whole a ts [] → ⊥)
    (c.as_slice.ensures ∙ c.in_ok-lexemes.ensures.seen) c.in_err-tree.ensures.none)
