use Rattle.std.proofs.Common.{rules, ◌≡◌, ℕ, ◌<◌, ◌^◌, List, sym, ap, subst}
use Rattle.std.specs.Prelude.{Err}
use Rattle.abc_outside.specs.Stop.{Leaves}
use Rattle.abc_journal.specs.Journal.{BeginsQuiet}
use Rattle.abc_store.specs.Workspace.{Workspace}
use Rattle.abc_store.specs.Opening.{Opens, OpensTo}
use Rattle.abc_store.specs.Commit.{StillOpens}
use Rattle.abc_store.proofs.Images.{opens_by, opens_wrong, settled_opens, long_image, opening_stops, come_moved, wrong_place, refused_by}
use Rattle.abc_store.proofs.store.Store.begin.Given.{Over}
use Rattle.abc_store.proofs.store.Store.begin.Goals.{After-begin, In_ok-contents}
use Rattle.abc_store.proofs.store.Store.begin.Goals as goal

-- while the journal begins every stop leaves what the image opens to
begins : (g : Over) (c : After-begin g) → g.H.Host.tells_image → BeginsQuiet g.H.Host.clock g.H.Host.stopped c.args.host.now (g.H.Host.now c.args.host.now).image → (kept : Workspace) → OpensTo (g.H.Host.now c.args.host.now).image kept
    → Leaves g.H.Host.clock g.H.Host.stopped c.args.host.now c.begin.new.host (StillOpens kept (g.H.Host.now c.args.host.now).said)
begins g c told quiet kept is =
    opening_stops g.H.Host.clock g.H.Host.stopped c.args.host.now c.begin.new.host (g.H.Host.now c.args.host.now).image (g.H.Host.now c.args.host.now).said kept is (c.begin.ensures.stops told quiet)

pub returns-in_err-journal-clause-stops : goal.returns-in_err-journal-clause-stops
returns-in_err-journal-clause-stops g c told = begins g (goal.at.returns-in_err-journal-clause-stops g c).After-begin told

pub returns-clause-stops : goal.returns-clause-stops
returns-clause-stops g c told = begins g (goal.at.returns-clause-stops g c).After-begin told

pub returns-in_err-contents-clause-stops : goal.returns-in_err-contents-clause-stops
returns-in_err-contents-clause-stops g c told = begins g (goal.at.returns-in_err-contents-clause-stops g c).After-begin told

pub returns-in_err-journal-clause-unchanged : goal.returns-in_err-journal-clause-unchanged
returns-in_err-journal-clause-unchanged g c told at is = c.begin.ensures.long told (long_image (g.H.Host.now c.args.host.now).image at is)

pub returns-clause-unchanged : goal.returns-clause-unchanged
returns-clause-unchanged g c told at is = c.begin.ensures.long told (long_image (g.H.Host.now c.args.host.now).image at is)

pub returns-in_err-contents-clause-unchanged : goal.returns-in_err-contents-clause-unchanged
returns-in_err-contents-clause-unchanged g c told at is = c.begin.ensures.long told (long_image (g.H.Host.now c.args.host.now).image at is)

pub returns-in_err-journal-clause-untouched : goal.returns-in_err-journal-clause-untouched
returns-in_err-journal-clause-untouched g c told at is = c.begin.ensures.long_stops told (long_image (g.H.Host.now c.args.host.now).image at is)

pub returns-clause-untouched : goal.returns-clause-untouched
returns-clause-untouched g c told at is = c.begin.ensures.long_stops told (long_image (g.H.Host.now c.args.host.now).image at is)

pub returns-in_err-contents-clause-untouched : goal.returns-in_err-contents-clause-untouched
returns-in_err-contents-clause-untouched g c told at is = c.begin.ensures.long_stops told (long_image (g.H.Host.now c.args.host.now).image at is)

pub returns-in_err-journal-clause-refused : goal.returns-in_err-journal-clause-refused
returns-in_err-journal-clause-refused g c told =
    let image = (g.H.Host.now c.args.host.now).image in
    refused_by c.from_residual.result c.in_err-journal.field-0.0 image (search rules) (λ at is. opens_wrong image at ((rw is at c.in_err-journal.ensures.refused) told))

pub invariant_of-result : goal.invariant_of-result
invariant_of-result g c =
    (c.in_ok-contents.ensures.spellable, c.in_ok-contents.ensures.typed, ap (λ b. b.checkpoint) c.in_ok-journal.ensures.bounds)

-- what the records come to is what the image opens to
made : (g : Over) (c : In_ok-contents g) → g.H.Host.tells_image → OpensTo (g.H.Host.now c.args.host.now).image c.in_ok-contents.contents
made g c told =
    let start : c.layout.result.start ≡ c.in_ok-journal.journal.layout.start = search rules in
    opens_by (g.H.Host.now c.args.host.now).image _ _ (c.in_ok-journal.ensures.opened told)
    (come_moved c.layout.result.start c.in_ok-journal.journal.layout.start c.deref.result.now c.in_ok-journal.payloads.items _ start c.deref.ensures.value c.in_ok-contents.ensures.come)

pub returns-clause-opened : goal.returns-clause-opened
returns-clause-opened g c told = made g (goal.at.returns-clause-opened g c).In_ok-contents told

pub returns-clause-holds : goal.returns-clause-holds
returns-clause-holds g c told = record {
  layout = c.in_ok-journal.ensures.layout told;
  opens_to = subst (λ (i : List ℕ). OpensTo i c.in_ok-contents.contents) (sym (c.in_ok-journal.ensures.image told))
      (settled_opens (g.H.Host.now c.args.host.now).image _ (made g (goal.at.returns-clause-holds g c).In_ok-contents told));
}

pub returns-in_err-contents-clause-refused : goal.returns-in_err-contents-clause-refused
returns-in_err-contents-clause-refused g c told =
    let image = (g.H.Host.now c.args.host.now).image in
    let start : c.layout.result.start ≡ c.in_ok-journal.journal.layout.start = search rules in
    let low : c.in_ok-journal.journal.layout.gate < 2 ^ 64 = search rules in
    refused_by c.from_residual-in_err-contents.result c.in_err-contents.field-0.0 image (search rules) (λ at is.
    (let r = rw is at c.in_err-contents.ensures.refused in
    let here = come_moved c.layout.result.start c.in_ok-journal.journal.layout.start c.deref.result.now c.in_ok-journal.payloads.items (Err r.0) start c.deref.ensures.value r.1 in
    let place : at ≡ r.0 = wrong_place image _ r.0 at (c.in_ok-journal.ensures.opened told) low here r.2 in
    subst (λ (p : ℕ). Opens image (Err p)) (sym place) (opens_by image _ _ (c.in_ok-journal.ensures.opened told) here)))
