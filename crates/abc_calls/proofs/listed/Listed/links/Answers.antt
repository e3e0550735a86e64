use Rattle.std.proofs.Common.{◌∙◌}
use Rattle.abc_calls.specs.inner.Nodes.{nodes_in}
use Rattle.abc_calls.proofs.Listing.{next_added}
use Rattle.abc_calls.proofs.listed.Listed.links.Goals as goal

pub loop-link-preserved : goal.loop-link-preserved
loop-link-preserved c =
    c.loop-link.invariant ∙ next_added (λ link. nodes_in link.right) c.args.links.now c.loop-link.link-index c.link-item.result c.loop-link.self c.expression.new.self c.loop-link-test.true c.link-item.is c.in_ok-expression.ensures
