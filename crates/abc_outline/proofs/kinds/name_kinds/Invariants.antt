use Rattle.std.proofs.Common.{◌≡◌, ◌++◌, List, length}
use Rattle.abc_outline.specs.declared.refining.Refined.{Refined}
use Rattle.abc_outline.specs.OwnNames.{name_kinds}
use Rattle.abc_outline.proofs.kinds.name_kinds.Given as goal

abbrev pub invariant-loop-refinement : goal.invariant-loop-refinement
invariant-loop-refinement l = (behind : List Refined) × (l.ahead ++ behind ≡ l.fn.refined) × (l.kinds.items ≡ name_kinds l.fn.names behind)

abbrev pub decreases-loop-refinement : goal.decreases-loop-refinement
decreases-loop-refinement l = length l.ahead
