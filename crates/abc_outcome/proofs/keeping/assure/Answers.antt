use Rattle.std.proofs.Common.{rules, ◌≡◌, length}
use Rattle.abc_store.specs.Workspace.{with_targets}
use Rattle.abc_outcome.proofs.Accepted.{typed_unchanged}
use Rattle.abc_outcome.proofs.keeping.assure.Goals as goal

pub returns-then-is_empty-clause-typed : goal.returns-then-is_empty-clause-typed
returns-then-is_empty-clause-typed c =
    let kept = c.args.store.now.kept in
    let none : length c.args.changes.now ≡ 0 = search rules in
    typed_unchanged c.args.changes.now kept (with_targets kept c.args.targets.now) none c.requires.lead c.targets-there.ensures.typed
