use Rattle.std.specs.List.{All}
use Rattle.abc_terms.specs.Nodes.{DemandIn}
use Rattle.abc_unified.proofs.demands_of.Given as goal

abbrev pub invariant-loop-word : goal.invariant-loop-word
invariant-loop-word l = All (DemandIn l.count) l.demands.items
