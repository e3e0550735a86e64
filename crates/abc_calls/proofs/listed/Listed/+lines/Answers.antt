use Rattle.std.proofs.Common.{◌∙◌, ◌++◌, map, sym, ap}
use Rattle.abc_tree.specs.Lists.{flat}
use Rattle.abc_calls.specs.inner.Nodes.{nodes_in, nodes_in_test, nodes_if_any, nodes_in_node, nodes_in_action, nodes_in_alternative}
use Rattle.abc_tree.specs.Lined.{at}
use Rattle.abc_tree.specs.declared.commands.Alternative.{out-Alternative}
use Rattle.abc_calls.proofs.Listing.{next_upto, two_upto, nodes_if, nodes_while, nodes_for, nodes_alternative}
use Rattle.abc_calls.proofs.listed.Listed.+lines.Goals as goal

pub node-returns-in_ok-suite-in-If : goal.node-returns-in_ok-suite-in-If
node-returns-in_ok-suite-in-If t c =
    let own = at c.args.line (nodes_in_test c.in-If.test) in
    let parts = ap (λ node. nodes_in_node node c.args.line) c.in-If.is ∙ nodes_if c.in-If.test c.in-If.suite c.args.line ∙ ap (λ suite. own ++ flat (map nodes_in_action suite)) (sym c.as_slice-in-If.ensures) in
    two_upto c.args.n c.args.self.now c.test_upto-in-If.new.self c.suite.new.self own (flat (map nodes_in_action c.as_slice-in-If.result.now)) (nodes_in_node c.args.node.now c.args.line) parts c.in_ok-test_upto-in-If.ensures c.in_ok-suite-in-If.ensures

pub node-returns-in_ok-suite-in-While : goal.node-returns-in_ok-suite-in-While
node-returns-in_ok-suite-in-While t c =
    let own = at c.args.line (nodes_in_test c.in-While.test) in
    let parts = ap (λ node. nodes_in_node node c.args.line) c.in-While.is ∙ nodes_while c.in-While.test c.in-While.suite c.args.line ∙ ap (λ suite. own ++ flat (map nodes_in_action suite)) (sym c.as_slice-in-While.ensures) in
    two_upto c.args.n c.args.self.now c.test_upto-in-While.new.self c.suite-in-While.new.self own (flat (map nodes_in_action c.as_slice-in-While.result.now)) (nodes_in_node c.args.node.now c.args.line) parts c.in_ok-test_upto-in-While.ensures c.in_ok-suite-in-While.ensures

pub node-returns-in_ok-suite-in-For : goal.node-returns-in_ok-suite-in-For
node-returns-in_ok-suite-in-For t c =
    let own = at c.args.line (nodes_in c.in-For.train) in
    let parts = ap (λ node. nodes_in_node node c.args.line) c.in-For.is ∙ nodes_for c.in-For.names c.in-For.train c.in-For.suite c.args.line ∙ ap (λ suite. own ++ flat (map nodes_in_action suite)) (sym c.as_slice-in-For.ensures) in
    two_upto c.args.n c.args.self.now c.expression_upto-in-For.new.self c.suite-in-For.new.self own (flat (map nodes_in_action c.as_slice-in-For.result.now)) (nodes_in_node c.args.node.now c.args.line) parts c.in_ok-expression_upto-in-For.ensures c.in_ok-suite-in-For.ensures

pub alternative-returns : goal.alternative-returns
alternative-returns t c =
    let a = out-Alternative c.args.alternative.now in
    let own = at a.line (nodes_if_any a.test) in
    let parts = nodes_alternative c.args.alternative.now ∙ ap (λ suite. own ++ flat (map nodes_in_action suite)) (sym c.as_slice.ensures) in
    two_upto c.args.n c.args.self.now c.test_if_any.new.self c.suite.new.self own (flat (map nodes_in_action c.as_slice.result.now)) (nodes_in_alternative c.args.alternative.now) parts c.in_ok-test_if_any.ensures c.in_ok-suite.ensures

pub suite-loop-action-preserved : goal.suite-loop-action-preserved
suite-loop-action-preserved t c =
    c.loop-action.invariant ∙ next_upto nodes_in_action c.args.n c.args.suite.now c.loop-action.action-index c.action-item.result c.loop-action.self c.action.new.self c.loop-action-test.true c.action-item.is c.in_ok-action.ensures

pub alternatives-loop-alternative-preserved : goal.alternatives-loop-alternative-preserved
alternatives-loop-alternative-preserved t c =
    c.loop-alternative.invariant
    ∙ next_upto nodes_in_alternative c.args.n c.args.alternatives.now c.loop-alternative.alternative-index c.alternative-item.result c.loop-alternative.self c.alternative.new.self c.loop-alternative-test.true c.alternative-item.is c.in_ok-alternative.ensures
