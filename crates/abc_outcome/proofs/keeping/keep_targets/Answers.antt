use Rattle.std.proofs.Common.{◌≡◌, true, subst, arith, rules}
use Rattle.std.specs.List.{list_all}
use Rattle.abc_store.specs.View.{work_of}
use Rattle.abc_store.specs.Workspace.{IsWellTyped, with_targets}
use Rattle.abc_outcome.specs.inner.Settling.{Settles}
use Rattle.abc_outcome.specs.Outcome.{Outcome}
use Rattle.abc_outcome.specs.Reply.{ok_line}
use Rattle.abc_outcome.specs.Spelled.{has_spelling}
use Rattle.abc_outcome.proofs.Commits.{kept_targets}
use Rattle.abc_outcome.proofs.Named.{named_after}
use Rattle.abc_outcome.proofs.keeping.keep_targets.Goals as goal

pub keep-requires-clause-kept : goal.keep-requires-clause-kept
keep-requires-clause-kept g c =
    let spelled : list_all has_spelling c.in_ok-changes.changes.items ≡ true = search rules in
    c.in_ok-changes.ensures.kept (named_after c.in_ok-changes.changes.items c.args.store.now.kept (with_targets c.args.store.now.kept c.args.targets.now) spelled c.targets-there.ensures.named c.in_ok-changes.ensures.lead)
    (record { targets = omega (arith, c.if-len-gt-MOST_TARGETS.false, c.len.ensures.count); units = c.targets-there.ensures.limits.units })

pub keep-requires-clause-later : goal.keep-requires-clause-later
keep-requires-clause-later g c =
    let later = with_targets c.args.store.now.kept c.args.targets.now in
    let typed : IsWellTyped later = search rules in
    (later, c.in_ok-changes.ensures.lead, record { targets = omega (arith, c.if-len-gt-MOST_TARGETS.false, c.len.ensures.count); units = c.targets-there.ensures.limits.units }, typed)

pub returns-clause-settles : goal.returns-clause-settles
returns-clause-settles g c left =
    let spelled : list_all has_spelling c.in_ok-changes.changes.items ≡ true = search rules in
    subst (λ (out : Outcome). Settles g.H.Host.tells_image g.H.Host.now g.H.Host.clock g.H.Host.stopped c.args.store.now c.keep.new.store c.args.host.now c.keep.new.host c.keep.result left out)
    (kept_targets c.args.store.now.bounds c.args.k (work_of c.args.store.now) (record { output = c.args.output.items; left = left; line = ok_line c.args.k; quits = c.args.quit }) c.args.targets.now c.in_ok-changes.changes.items c.in_ok-line.line.items
    c.in_ok-changes.ensures.changes (omega (arith, c.if-len-gt-MOST_TARGETS.false, c.len.ensures.count)) spelled c.in_ok-line.ensures)
    (c.keep.ensures (with_targets c.args.store.now.kept c.args.targets.now) left c.in_ok-changes.ensures.lead)
