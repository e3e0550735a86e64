use Rattle.std.proofs.Common.{rules, ◌≡◌, Some, ap, subst}
use Rattle.std.specs.Prelude.{IfOk}
use Rattle.abc_frames.specs.Maps.{AreRising, AreRegular, changes_of}
use Rattle.abc_store.specs.Workspace.{Workspace, changed_by, with_targets}
use Rattle.abc_store.proofs.Targets.{lead_given, kept_given}
use Rattle.abc_store.proofs.store.Store.changes.Goals as goal

pub returns-clause-lead : goal.returns-clause-lead
returns-clause-lead c =
    let before : Workspace = c.self.inside.contents in
    let told : c.in_ok-changes.field-0.items ≡ changes_of before.targets c.args.working.now = search rules in
    let rising : AreRising before.targets × AreRising c.args.working.now = search rules in
    let regular : AreRegular before.targets × AreRegular c.args.working.now = search rules in
    subst (λ (ws : Workspace). IfOk c.as_changes.result (λ changes. changed_by changes.items ws ≡ Some (with_targets ws c.args.working.now))) (ap (λ o. o.kept) c.self.view_is)
    (lead_given (λ v. v.items) c.as_changes.result c.in_ok-changes.field-0.items before c.args.working.now c.as_changes.ensures told rising regular)

pub returns-clause-kept : goal.returns-clause-kept
returns-clause-kept c named limits =
    let before : Workspace = c.self.inside.contents in
    let told : c.in_ok-changes.field-0.items ≡ changes_of before.targets c.args.working.now = search rules in
    let rising : AreRising before.targets × AreRising c.args.working.now = search rules in
    let regular : AreRegular before.targets × AreRegular c.args.working.now = search rules in
    let s = c.self.invariant.0 in
    kept_given (λ v. v.items) c.as_changes.result c.in_ok-changes.field-0.items before.targets c.args.working.now c.as_changes.ensures told (s.named, named) (s.limits.targets, limits.targets) rising regular
