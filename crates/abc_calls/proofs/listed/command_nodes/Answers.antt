use Rattle.std.proofs.Common.{◌∙◌, ap}
use Rattle.abc_tree.specs.Lined.{upto}
use Rattle.abc_calls.specs.inner.Nodes.{nodes_in_action, with_nodes}
use Rattle.abc_calls.proofs.Listing.{from_nothing}
use Rattle.abc_calls.proofs.listed.command_nodes.Goals as goal

pub returns : goal.returns
returns c =
    c.into_vec.ensures ∙ (c.in_ok-action.ensures ∙ (ap (λ found. with_nodes found (upto c.args.n (nodes_in_action c.args.command.now.action))) c.new-listed.ensures ∙ from_nothing (upto c.args.n (nodes_in_action c.args.command.now.action))))
