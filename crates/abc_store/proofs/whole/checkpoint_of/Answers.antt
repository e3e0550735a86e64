use Rattle.std.proofs.Common.{◌∙◌, ◌<◌, ◌^◌, length, sym, subst}
use Rattle.abc_record.specs.Spelling.{spelled}
use Rattle.abc_record.specs.Kept.{AreKept}
use Rattle.abc_store.specs.Workspace.{Workspace}
use Rattle.abc_store.proofs.Wholes.{all_kept, all_fit, checkpoint_leads, checkpoint_given}
use Rattle.abc_store.proofs.whole.checkpoint_of.Goals as goal

pub write_changes-requires-clause-kept : goal.write_changes-requires-clause-kept
write_changes-requires-clause-kept c =
    let ws : Workspace = record { targets = c.args.targets.now; units = c.args.units.now } in
    subst AreKept (sym (c.deref.ensures.value ∙ c.in_ok-changes.ensures.all)) (all_kept ws c.requires.spellable c.in_ok-changes.ensures.regular)

pub write_changes-requires-clause-fits : goal.write_changes-requires-clause-fits
write_changes-requires-clause-fits c =
    let ws : Workspace = record { targets = c.args.targets.now; units = c.args.units.now } in
    subst (λ cs. length (spelled cs) < 2 ^ 64) (sym (c.deref.ensures.value ∙ c.in_ok-changes.ensures.all)) (all_fit ws c.requires.spellable c.in_ok-changes.ensures.regular)

pub returns : goal.returns
returns c =
    let ws : Workspace = record { targets = c.args.targets.now; units = c.args.units.now } in
    checkpoint_given (λ p. p.items) c.write_changes.result c.deref.result.now ws c.write_changes.ensures (c.deref.ensures.value ∙ c.in_ok-changes.ensures.all)
    (checkpoint_leads ws c.requires.spellable c.in_ok-changes.ensures.rising c.in_ok-changes.ensures.regular c.requires.in_order)
