use Rattle.std.proofs.Common.{rules, ◌≡◌, []}
use Rattle.abc_frames.specs.Maps.{changes_of}
use Rattle.abc_store.proofs.Targets.{all_given}
use Rattle.abc_store.proofs.whole.all_targets.Goals as goal

pub returns-clause-all : goal.returns-clause-all
returns-clause-all c =
    let told : c.in_ok-changes.field-0.items ≡ changes_of [] c.args.targets.now = search rules in
    all_given (λ v. v.items) c.as_changes.result c.in_ok-changes.field-0.items c.args.targets.now c.as_changes.ensures told c.in_ok-changes.ensures.rising.1
