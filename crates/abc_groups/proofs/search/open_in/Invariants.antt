use Rattle.std.proofs.Common.{ℕ, ◌<◌, get_or}
use Rattle.abc_groups.specs.inner.Search.{IsShutMark, mark}
use Rattle.abc_groups.proofs.search.open_in.Given as goal

abbrev pub invariant-loop-k : goal.invariant-loop-k
invariant-loop-k l = (j d : ℕ) → j < l.k → IsShutMark l.start (mark l.marks (get_or l.row j d))
