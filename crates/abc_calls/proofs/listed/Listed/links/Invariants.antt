use Rattle.std.proofs.Common.{◌≡◌, map, drop}
use Rattle.abc_calls.specs.inner.Nodes.{nodes_in, with_nodes}
use Rattle.abc_tree.specs.Lists.{flat}
use Rattle.abc_calls.proofs.listed.Listed.links.Given as goal

abbrev pub invariant-loop-link : goal.invariant-loop-link
invariant-loop-link l = with_nodes l.initial.self (flat (map (λ link. nodes_in link.right) l.links)) ≡ with_nodes l.self (flat (map (λ link. nodes_in link.right) (drop l.link-index l.links)))
