use Rattle.std.proofs.Common.{ℕ, ◌<◌, ◌≤◌}
use Rattle.abc_groups.specs.inner.Search.{IsShut}
use Rattle.abc_groups.proofs.search.open_call.Given as goal

abbrev pub invariant-loop-k : goal.invariant-loop-k
invariant-loop-k l = (j : ℕ) → l.start ≤ j → j < l.k → IsShut l.graph l.marks l.path l.start j
