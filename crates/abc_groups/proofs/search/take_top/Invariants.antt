use Rattle.std.proofs.Common.{◌≤◌, length}
use Rattle.abc_groups.specs.inner.Search.{IsTaken}
use Rattle.abc_groups.proofs.search.take_top.Given as goal

abbrev pub invariant-loop-path : goal.invariant-loop-path
invariant-loop-path l = record {
  early : l.start ≤ length l.path.items;
  taken : IsTaken l.fn.marks l.fn.path.items (length l.path.items) l.marks l.path.items l.row.items;
}

abbrev pub decreases-loop-path : goal.decreases-loop-path
decreases-loop-path l = length l.path.items
