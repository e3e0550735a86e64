use Rattle.std.proofs.Common.{map, ap, subst, arith}
use Rattle.abc_tree.specs.Height.{highest}
use Rattle.abc_tree.specs.Lists.{flat}
use Rattle.abc_check.specs.inner.Ends.{EndBy, of_action, of_alternative, last_of_action, last_of_alternative}
use Rattle.abc_check.proofs.Ending.{ends_next, action_ends, alternative_ends, if_ends, while_ends, for_ends, select_ends, others_end}
use Rattle.abc_check.proofs.Lasting.{highest_next, action_is, alternative_is, if_is, while_is, for_is, select_is, none_is}
use Rattle.abc_check.proofs.lines.+ends.Goals as goal

pub action_end-returns-clause-ends : goal.action_end-returns-clause-ends
action_end-returns-clause-ends t c = action_ends c.args.action.now c.inner_end.result (omega (arith, c.max.ensures, c.inner_end.ensures.greatest)) c.inner_end.ensures.ends

pub action_end-returns-clause-greatest : goal.action_end-returns-clause-greatest
action_end-returns-clause-greatest t c = omega (arith, c.max.ensures, c.inner_end.ensures.greatest, action_is c.args.action.now)

pub alternative_end-returns-clause-ends : goal.alternative_end-returns-clause-ends
alternative_end-returns-clause-ends t c = alternative_ends c.args.alternative.now c.suite_end.result (omega (arith, c.max.ensures, c.suite_end.ensures.greatest)) (subst (λ actions. EndBy c.suite_end.result (flat (map of_action actions))) c.as_slice.ensures c.suite_end.ensures.ends)

pub alternative_end-returns-clause-greatest : goal.alternative_end-returns-clause-greatest
alternative_end-returns-clause-greatest t c = omega (arith, c.max.ensures, c.suite_end.ensures.greatest, ap (λ actions. highest (map last_of_action actions)) c.as_slice.ensures, alternative_is c.args.alternative.now)

pub inner_end-returns-in-If-clause-ends : goal.inner_end-returns-in-If-clause-ends
inner_end-returns-in-If-clause-ends t c = if_ends c.args.node.now c.suite_end.result c.in-If.field-0 c.in-If.suite c.as_slice.result.now c.in-If.is c.as_slice.ensures c.suite_end.ensures.ends

pub inner_end-returns-in-If-clause-greatest : goal.inner_end-returns-in-If-clause-greatest
inner_end-returns-in-If-clause-greatest t c = omega (arith, c.suite_end.ensures.greatest, if_is c.args.node.now c.in-If.field-0 c.in-If.suite c.as_slice.result.now c.in-If.is c.as_slice.ensures)

pub inner_end-returns-in-While-clause-ends : goal.inner_end-returns-in-While-clause-ends
inner_end-returns-in-While-clause-ends t c = while_ends c.args.node.now c.suite_end-in-While.result c.in-While.field-0 c.in-While.suite c.as_slice-in-While.result.now c.in-While.is c.as_slice-in-While.ensures c.suite_end-in-While.ensures.ends

pub inner_end-returns-in-While-clause-greatest : goal.inner_end-returns-in-While-clause-greatest
inner_end-returns-in-While-clause-greatest t c = omega (arith, c.suite_end-in-While.ensures.greatest, while_is c.args.node.now c.in-While.field-0 c.in-While.suite c.as_slice-in-While.result.now c.in-While.is c.as_slice-in-While.ensures)

pub inner_end-returns-in-For-clause-ends : goal.inner_end-returns-in-For-clause-ends
inner_end-returns-in-For-clause-ends t c = for_ends c.args.node.now c.suite_end-in-For.result c.in-For.names c.in-For.train c.in-For.suite c.as_slice-in-For.result.now c.in-For.is c.as_slice-in-For.ensures c.suite_end-in-For.ensures.ends

pub inner_end-returns-in-For-clause-greatest : goal.inner_end-returns-in-For-clause-greatest
inner_end-returns-in-For-clause-greatest t c = omega (arith, c.suite_end-in-For.ensures.greatest, for_is c.args.node.now c.in-For.names c.in-For.train c.in-For.suite c.as_slice-in-For.result.now c.in-For.is c.as_slice-in-For.ensures)

pub inner_end-returns-in-Select-clause-ends : goal.inner_end-returns-in-Select-clause-ends
inner_end-returns-in-Select-clause-ends t c = select_ends c.args.node.now c.alternatives_end.result c.in-Select.alternatives c.as_slice-in-Select.result.now c.in-Select.is c.as_slice-in-Select.ensures c.alternatives_end.ensures.ends

pub inner_end-returns-in-Select-clause-greatest : goal.inner_end-returns-in-Select-clause-greatest
inner_end-returns-in-Select-clause-greatest t c = omega (arith, c.alternatives_end.ensures.greatest, select_is c.args.node.now c.in-Select.alternatives c.as_slice-in-Select.result.now c.in-Select.is c.as_slice-in-Select.ensures)

pub inner_end-returns-in_default-clause-ends : goal.inner_end-returns-in_default-clause-ends
inner_end-returns-in_default-clause-ends t c = others_end c.args.node.now c.args.before c.in_default.not-If c.in_default.not-While c.in_default.not-For c.in_default.not-Select

pub inner_end-returns-in_default-clause-greatest : goal.inner_end-returns-in_default-clause-greatest
inner_end-returns-in_default-clause-greatest t c = omega (arith, none_is c.args.node.now c.in_default.not-If c.in_default.not-While c.in_default.not-For c.in_default.not-Select)

pub suite_end-loop-action-preserved : goal.suite_end-loop-action-preserved
suite_end-loop-action-preserved t c = record {
  ends = ends_next of_action c.args.suite.now c.loop-action.action-index c.action-item.result c.loop-action.last c.action_end-last.result c.loop-action-test.true c.action-item.is (omega (arith, c.action_end-last.ensures.greatest)) c.loop-action.invariant.ends c.action_end-last.ensures.ends;
  greatest = highest_next last_of_action c.args.suite.now c.loop-action.action-index c.action-item.result c.args.before c.loop-action.last c.action_end-last.result c.loop-action-test.true c.action-item.is c.loop-action.invariant.greatest c.action_end-last.ensures.greatest;
}

pub alternatives_end-loop-alternative-preserved : goal.alternatives_end-loop-alternative-preserved
alternatives_end-loop-alternative-preserved t c = record {
  ends = ends_next of_alternative c.args.alternatives.now c.loop-alternative.alternative-index c.alternative-item.result c.loop-alternative.last c.alternative_end-last.result c.loop-alternative-test.true c.alternative-item.is (omega (arith, c.alternative_end-last.ensures.greatest)) c.loop-alternative.invariant.ends c.alternative_end-last.ensures.ends;
  greatest = highest_next last_of_alternative c.args.alternatives.now c.loop-alternative.alternative-index c.alternative-item.result c.args.before c.loop-alternative.last c.alternative_end-last.result c.loop-alternative-test.true c.alternative-item.is c.loop-alternative.invariant.greatest c.alternative_end-last.ensures.greatest;
}
