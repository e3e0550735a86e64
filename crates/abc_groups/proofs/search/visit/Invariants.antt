use Rattle.std.proofs.Common.{◌+◌, length}
use Rattle.std.specs.List.{sum_by}
use Rattle.abc_groups.specs.inner.Search.{IsState, path_weight}
use Rattle.abc_groups.proofs.search.visit.Given as goal

abbrev pub invariant-loop-start : goal.invariant-loop-start
invariant-loop-start l = IsState l.graph l.there l.fn.marks l.root l.marks l.path.items l.starts.items l.groups.items

abbrev pub decreases-loop-start : goal.decreases-loop-start
decreases-loop-start l = sum_by path_weight l.marks + length l.starts.items
