use Rattle.std.proofs.Common.{take}
use Rattle.abc_demand.specs.Typings.{TargetsMade}
use Rattle.abc_principal.specs.Exact.{cuts_of}
use Rattle.abc_check.specs.Standing.{KnowsUnits}
use Rattle.abc_check.specs.inner.Asked.{SomeAsked}
use Rattle.abc_check.proofs.asked.asked_units.Given as goal

abbrev pub invariant-loop-member : goal.invariant-loop-member
invariant-loop-member l = record {
  made : TargetsMade l.asked.graph.count l.asked.targets;
  asked : KnowsUnits l.known (cuts_of l.members) → SomeAsked (cuts_of l.members) (cuts_of (take l.member-index l.members)) l.asked.graph.demands l.asked.targets;
}
