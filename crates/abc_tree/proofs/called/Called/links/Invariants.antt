use Rattle.std.proofs.Common.{◌≡◌, map, drop}
use Rattle.abc_tree.specs.Calls.{calls_in, with_calls}
use Rattle.abc_tree.specs.Lists.{flat}
use Rattle.abc_tree.proofs.called.Called.links.Given as goal

abbrev pub invariant-loop-link : goal.invariant-loop-link
invariant-loop-link l = with_calls l.initial.self (flat (map (λ link. calls_in link.right) l.links)) ≡ with_calls l.self (flat (map (λ link. calls_in link.right) (drop l.link-index l.links)))
