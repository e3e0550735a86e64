use Rattle.std.proofs.Common.{[]}
use Rattle.abc_num.specs.declared.limits.TheConstants.{MOST_BRACKETS}
use Rattle.abc_expressions.specs.Grammar.{Spells}
use Rattle.abc_expressions.specs.Readings.{single_of}
use Rattle.abc_expressions.proofs.Spelled.{is_true, is_of_none, is_single_of, answers_single}
use Rattle.abc_expressions.proofs.expressions.single_expression.Goals as goal

pub returns-clause-found : goal.returns-clause-found
returns-clause-found c =
    is_true (λ a. Spells c.args.own.now MOST_BRACKETS 1 a c.args.tokens.now []) (single_of c.args.own.now c.args.tokens.now) (is_single_of c.one_reading.ensures c.args.own.now c.args.tokens.now)
    c.tree_of_all.result (answers_single c.args.own.now c.args.tokens.now c.tree_of_all.result c.tree_of_all.ensures)

pub returns-clause-none : goal.returns-clause-none
returns-clause-none c =
    is_of_none (λ a. Spells c.args.own.now MOST_BRACKETS 1 a c.args.tokens.now []) (single_of c.args.own.now c.args.tokens.now) (is_single_of c.one_reading.ensures c.args.own.now c.args.tokens.now)
    c.tree_of_all.result (answers_single c.args.own.now c.args.tokens.now c.tree_of_all.result c.tree_of_all.ensures)
