use Rattle.std.proofs.Common.{◌≡◌}
use Rattle.std.specs.List.{AllByRecursion}
use Rattle.abc_record.specs.Kept.{IsKept}
use Rattle.abc_store.specs.Workspace.{changed_by}
use Rattle.abc_store.proofs.changing.make_all.Given as goal

abbrev pub invariant-loop-change : goal.invariant-loop-change
invariant-loop-change l =
    (goal.iterator-loop-change).can_next l.change-iterator ×
    (goal.iterator-loop-change).is_finite l.change-iterator ×
    (changed_by l.fn.changes.items l.initial.contents ≡ changed_by l.change-iterator.rest.items l.contents) ×
    AllByRecursion IsKept l.change-iterator.rest.items
