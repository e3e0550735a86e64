use Rattle.std.proofs.Common.{rules, ◌∙◌, List, ℕ, false, [], refl, ap, subst}
use Rattle.abc_tree.specs.Units.{AreRising}
use Rattle.abc_store.specs.Commit.{stored}
use Rattle.abc_store.specs.View.{work_of}
use Rattle.abc_record.specs.declared.change.Change.{Change}
use Rattle.abc_outcome.specs.Outcome.{Outcome, on_stored, without_unit}
use Rattle.abc_outcome.specs.Reply.{ok_line}
use Rattle.abc_outcome.specs.inner.Settling.{Settles}
use Rattle.abc_outcome.proofs.Items.{drop_is_kept, unit_drops}
use Rattle.abc_outcome.proofs.inquiries.drop_unit.Goals as goal

pub keep-requires-clause-later : goal.keep-requires-clause-later
keep-requires-clause-later g c =
    let kept = c.args.store.now.kept in
    let in_order : AreRising kept.units = search rules in
    let leads = unit_drops kept c.args.template c.in_ok-changes.changes.items c.in_ok-changes.ensures in
    (without_unit c.args.template kept, leads, c.dropping_keeps_within_limits.ensures c.args.template kept (without_unit c.args.template kept) c.targets-there.ensures.limits refl, c.dropping_stays_typed.ensures kept c.args.template in_order c.targets-there.ensures.typed)

pub keep-requires-clause-kept : goal.keep-requires-clause-kept
keep-requires-clause-kept g c = drop_is_kept c.args.template c.in_ok-changes.changes.items c.requires.spelled c.in_ok-changes.ensures

pub returns-clause-settles : goal.returns-clause-settles
returns-clause-settles g c behind =
    let work = work_of c.args.store.now in
    let k = c.args.k in
    let later = without_unit c.args.template work.kept in
    let changes = c.in_ok-changes.changes.items in
    let bounds = c.args.store.now.bounds in
    subst (λ (out : Outcome). Settles g.H.Host.tells_image g.H.Host.now g.H.Host.clock g.H.Host.stopped c.args.store.now c.keep.new.store c.args.host.now c.keep.new.host c.keep.result behind.lines out)
    (ap (λ (output : List ℕ). on_stored k work (record { output = output; left = behind.lines; line = c.in_ok-ok_line.field-0.items; quits = false }) (stored bounds work changes later)) c.new.ensures.items
    ∙ ap (λ (line : List ℕ). on_stored k work (record { output = []; left = behind.lines; line = line; quits = false }) (stored bounds work changes later)) c.in_ok-ok_line.ensures
    ∙ ap (λ (cs : List Change). on_stored k work (record { output = []; left = behind.lines; line = ok_line k; quits = false }) (stored bounds work cs later)) c.in_ok-changes.ensures)
    (c.keep.ensures later behind.lines (unit_drops work.kept c.args.template changes c.in_ok-changes.ensures))
