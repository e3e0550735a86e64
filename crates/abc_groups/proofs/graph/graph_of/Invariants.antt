use Rattle.std.proofs.Common.{◌≡◌, ◌-◌, length, take, vec_len}
use Rattle.abc_groups.specs.Program.{graph_in}
use Rattle.abc_groups.proofs.graph.graph_of.Given as goal

abbrev pub invariant-units : goal.invariant-units
invariant-units l = l.graph.items ≡ graph_in (take (vec_len l.graph) l.units)

abbrev pub decreases-units : goal.decreases-units
decreases-units l = length l.units - vec_len l.graph
