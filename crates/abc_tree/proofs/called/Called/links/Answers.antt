use Rattle.std.proofs.Common.{◌∙◌}
use Rattle.abc_tree.specs.Calls.{calls_in}
use Rattle.abc_tree.proofs.Calling.{next_added}
use Rattle.abc_tree.proofs.called.Called.links.Goals as goal

pub loop-link-preserved : goal.loop-link-preserved
loop-link-preserved c =
    c.loop-link.invariant ∙ next_added (λ link. calls_in link.right) c.args.links.now c.loop-link.link-index c.link-item.result c.loop-link.self c.expression.new.self c.loop-link-test.true c.link-item.is c.in_ok-expression.ensures
