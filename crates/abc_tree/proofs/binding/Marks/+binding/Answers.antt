use Rattle.std.proofs.Common.{◌∙◌, ◌++◌, map, sym, ap}
use Rattle.abc_tree.specs.Lists.{flat}
use Rattle.abc_tree.specs.RegularItems.{bound_names, bounds_in_test}
use Rattle.abc_tree.specs.inner.Bindings.{bound_if_any, bound_in_action, bound_in_alternative, bound_in_node, marked}
use Rattle.abc_tree.specs.declared.commands.Alternative.{out-Alternative}
use Rattle.abc_tree.proofs.BoundNames.{next_marked, two_marked, bound_alternative, bound_call, bound_for, bound_if, bound_select, bound_while}
use Rattle.abc_tree.proofs.binding.Marks.+binding.Goals as goal

pub alternative-returns : goal.alternative-returns
alternative-returns t c =
    let a = out-Alternative c.args.alternative.now in
    let parts = bound_alternative c.args.alternative.now ∙ ap (λ suite. bound_if_any a.test ++ flat (map bound_in_action suite)) (sym c.as_slice.ensures) in
    two_marked c.args.self.now c.test_if_any.new.self c.suite.new.self (bound_if_any a.test) (flat (map bound_in_action c.as_slice.result.now)) (bound_in_alternative c.args.alternative.now) parts c.test_if_any.ensures c.suite.ensures

pub node-returns-in-If : goal.node-returns-in-If
node-returns-in-If t c =
    let own = bounds_in_test c.in-If.test in
    let parts = ap bound_in_node c.in-If.is ∙ bound_if c.in-If.test c.in-If.suite ∙ ap (λ suite. own ++ flat (map bound_in_action suite)) (sym c.as_slice.ensures) in
    two_marked c.args.self.now c.test-in-If.new.self c.suite.new.self own (flat (map bound_in_action c.as_slice.result.now)) (bound_in_node c.args.node.now) parts c.test-in-If.ensures c.suite.ensures

pub node-returns-in-Select : goal.node-returns-in-Select
node-returns-in-Select t c =
    c.alternatives.ensures ∙ ap (λ alternatives. marked c.args.self.now (flat (map bound_in_alternative alternatives))) c.as_slice-in-Select.ensures
    ∙ ap (marked c.args.self.now) (sym (ap bound_in_node c.in-Select.is ∙ bound_select c.in-Select.alternatives))

pub node-returns-in-While : goal.node-returns-in-While
node-returns-in-While t c =
    let own = bounds_in_test c.in-While.test in
    let parts = ap bound_in_node c.in-While.is ∙ bound_while c.in-While.test c.in-While.suite ∙ ap (λ suite. own ++ flat (map bound_in_action suite)) (sym c.as_slice-in-While.ensures) in
    two_marked c.args.self.now c.test-in-While.new.self c.suite-in-While.new.self own (flat (map bound_in_action c.as_slice-in-While.result.now)) (bound_in_node c.args.node.now) parts c.test-in-While.ensures c.suite-in-While.ensures

pub node-returns-in-For : goal.node-returns-in-For
node-returns-in-For t c =
    let own = bound_names c.in-For.names in
    let parts = ap bound_in_node c.in-For.is ∙ bound_for c.in-For.names c.in-For.train c.in-For.suite ∙ ap (λ suite. own ++ flat (map bound_in_action suite)) (sym c.as_slice-in-For.ensures) in
    two_marked c.args.self.now c.bound.new.self c.suite-in-For.new.self own (flat (map bound_in_action c.as_slice-in-For.result.now)) (bound_in_node c.args.node.now) parts c.bound.ensures c.suite-in-For.ensures

pub node-returns-in-Call : goal.node-returns-in-Call
node-returns-in-Call t c = sym (ap (marked c.args.self.now) (ap bound_in_node c.in-Call.is ∙ bound_call _ _))

pub suite-loop-action-preserved : goal.suite-loop-action-preserved
suite-loop-action-preserved t c =
    c.loop-action.invariant ∙ next_marked bound_in_action c.args.suite.now c.loop-action.action-index c.action-item.result c.loop-action.self c.action.new.self c.loop-action-test.true c.action-item.is c.action.ensures

pub alternatives-loop-alternative-preserved : goal.alternatives-loop-alternative-preserved
alternatives-loop-alternative-preserved t c =
    c.loop-alternative.invariant
    ∙ next_marked bound_in_alternative c.args.alternatives.now c.loop-alternative.alternative-index c.alternative-item.result c.loop-alternative.self c.alternative.new.self c.loop-alternative-test.true c.alternative-item.is c.alternative.ensures
