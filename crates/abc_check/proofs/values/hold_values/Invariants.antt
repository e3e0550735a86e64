use Rattle.std.proofs.Common.{◌≡◌, ◌++◌, ℕ, List, [], take}
use Rattle.abc_terms.specs.declared.term.VarId.{VarId}
use Rattle.abc_ground.specs.Groups.{Cut}
use Rattle.abc_scheme.specs.Later.{IsLater}
use Rattle.abc_demand.specs.Typings.{TargetsMade}
use Rattle.abc_check.specs.Standing.{AreAsked}
use Rattle.abc_check.proofs.values.hold_values.Given as goal

abbrev pub invariant-loop-number : goal.invariant-loop-number
invariant-loop-number l = record {
  made : TargetsMade l.graph.count l.vars;
  later : IsLater l.initial.graph l.graph;
  behind : (added : List (List ℕ × VarId)) × (l.vars ≡ l.initial.vars ++ added);
  asked : (w : List Cut) → AreAsked l.initial.graph.demands l.initial.vars [] w → AreAsked l.graph.demands l.vars (take l.number l.targets) w;
}
