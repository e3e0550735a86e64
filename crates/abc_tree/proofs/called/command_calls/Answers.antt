use Rattle.std.proofs.Common.{◌∙◌, ap}
use Rattle.abc_tree.specs.Calls.{calls_in_action, with_calls}
use Rattle.abc_tree.specs.Lined.{upto}
use Rattle.abc_tree.proofs.called.command_calls.Goals as goal

pub returns : goal.returns
returns c = c.into_vec.ensures ∙ c.in_ok-action.ensures ∙ ap (λ found. with_calls found (upto c.args.n (calls_in_action c.args.command.now.action))) c.new-called.ensures
