use Rattle.std.proofs.Common.{◌≡◌, map, drop}
use Rattle.abc_calls.specs.inner.Nodes.{nodes_in_action, nodes_in_alternative, with_nodes}
use Rattle.abc_tree.specs.Lined.{upto}
use Rattle.abc_tree.specs.Lists.{flat}
use Rattle.abc_calls.proofs.listed.Listed.+lines.Given as goal

abbrev pub invariant-suite-loop-action : goal.invariant-suite-loop-action
invariant-suite-loop-action l = with_nodes l.initial.self (upto l.n (flat (map nodes_in_action l.suite))) ≡ with_nodes l.self (upto l.n (flat (map nodes_in_action (drop l.action-index l.suite))))

abbrev pub invariant-alternatives-loop-alternative : goal.invariant-alternatives-loop-alternative
invariant-alternatives-loop-alternative l =
    with_nodes l.initial.self (upto l.n (flat (map nodes_in_alternative l.alternatives))) ≡ with_nodes l.self (upto l.n (flat (map nodes_in_alternative (drop l.alternative-index l.alternatives))))
