use Rattle.std.proofs.Common.{ap, subst}
use Rattle.abc_store.specs.Workspace.{IsWellTyped}
use Rattle.abc_store.proofs.store.Store.targets.Goals as goal

pub returns-clause-typed : goal.returns-clause-typed
returns-clause-typed c = subst IsWellTyped (ap (λ v. v.kept) c.self.view_is) c.self.invariant.1
