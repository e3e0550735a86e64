use Rattle.std.proofs.Common.{[]}
use Rattle.abc_num.specs.declared.limits.TheConstants.{MOST_BRACKETS}
use Rattle.abc_expressions.specs.Grammar.{Spelled}
use Rattle.abc_expressions.specs.Readings.{expression_of}
use Rattle.abc_expressions.proofs.Spelled.{is_true, is_of_none, is_expression_of, answers_whole}
use Rattle.abc_expressions.proofs.expressions.whole_expression.Goals as goal

pub returns-clause-found : goal.returns-clause-found
returns-clause-found c =
    is_true (λ a. Spelled c.args.own.now MOST_BRACKETS a c.args.tokens.now []) (expression_of c.args.own.now c.args.tokens.now) (is_expression_of c.one_reading.ensures c.args.own.now c.args.tokens.now)
    c.tree_of_all.result (answers_whole c.args.own.now c.args.tokens.now c.new.result c.new.ensures c.tree_of_all.result c.tree_of_all.ensures)

pub returns-clause-none : goal.returns-clause-none
returns-clause-none c =
    is_of_none (λ a. Spelled c.args.own.now MOST_BRACKETS a c.args.tokens.now []) (expression_of c.args.own.now c.args.tokens.now) (is_expression_of c.one_reading.ensures c.args.own.now c.args.tokens.now)
    c.tree_of_all.result (answers_whole c.args.own.now c.args.tokens.now c.new.result c.new.ensures c.tree_of_all.result c.tree_of_all.ensures)
