use Rattle.std.proofs.Common.{ℕ, ◌↔◌, take}
use Rattle.std.specs.List.{All}
use Rattle.abc_num.specs.declared.types.Ground.{Ground}
use Rattle.abc_terms.specs.Demands.{MeetsAll}
use Rattle.abc_terms.specs.Nodes.{DemandIn}
use Rattle.abc_unify.specs.inner.Kinds.{ConstraintsHold, ConstraintsIn}
use Rattle.abc_unify.proofs.state.constraints_of_all.Given as goal

abbrev pub invariant-loop-i : goal.invariant-loop-i
invariant-loop-i l = record {
  means : (v : ℕ → Ground) → MeetsAll v (take l.i l.demands) ↔ ConstraintsHold v l.constraints.items;
  inside : (n : ℕ) → All (DemandIn n) (take l.i l.demands) → ConstraintsIn n l.constraints.items;
}
