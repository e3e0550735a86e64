use Rattle.std.proofs.Common.{◌≡◌, ◌++◌, map}
use Rattle.abc_store.specs.Workspace.{as_change}
use Rattle.abc_store.proofs.whole.as_changes.Given as goal

abbrev pub invariant-loop-change : goal.invariant-loop-change
invariant-loop-change l =
    (goal.iterator-loop-change).can_next l.change-iterator ×
    (goal.iterator-loop-change).is_finite l.change-iterator ×
    (map as_change l.fn.changes.items ≡ l.all.items ++ map as_change l.change-iterator.rest.items)
