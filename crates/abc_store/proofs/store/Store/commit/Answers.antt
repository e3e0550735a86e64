use Rattle.std.proofs.Common.{rules, ◌≡◌, ◌∙◌, ℕ, List, false, nat_lt, [], length, Some, ap, sym, subst}
use Rattle.std.specs.Prelude.{Ok}
use Rattle.abc_num.specs.declared.limits.TheConstants.{MOST_RECORD_BYTES}
use Rattle.abc_outside.specs.Stop.{Leaves}
use Rattle.abc_record.specs.Spelling.{spelled}
use Rattle.abc_journal.specs.Image.{payloads_of}
use Rattle.abc_store.specs.Workspace.{Workspace, changed_by}
use Rattle.abc_store.specs.Opening.{OpensTo}
use Rattle.abc_journal.specs.Journal.{IsFull}
use Rattle.abc_store.specs.Commit.{payloads_after, StillOpens}
use Rattle.abc_store.specs.View.{work_of}
use Rattle.abc_store.specs.inner.Steps.{IsNoFault}
use Rattle.abc_store.specs.inner.Later.{later_of}
use Rattle.abc_store.proofs.Stepping.{payloads_by_layout, refused_by_layout, decided_is_full, full_work}
use Rattle.abc_store.proofs.store.Store.commit.Given.{Over}
use Rattle.abc_store.proofs.store.Store.commit.Goals.{After-write_all}
use Rattle.abc_store.proofs.store.Store.commit.Goals as goal

-- the payloads once all is written that was made up
payloads_written : (g : Over) (c : After-write_all g) → g.H.Host.tells_image → (ps : List (List ℕ)) (later : Workspace) → payloads_of (g.H.Host.now c.args.host.now).image ≡ Ok ps
    → changed_by c.args.changes.items c.args.self.now.kept ≡ Some later → IsNoFault c.write_all.result
    → payloads_of (g.H.Host.now c.write_all.new.host).image ≡ Ok (payloads_after c.args.self.now.bounds (work_of c.args.self.now) c.args.changes.items later ps)
payloads_written g c told ps later are made none_wrong =
    let kept : Workspace = c.self.inside.contents in
    let last : Workspace = later_of c.prepare.new.contents c.in_ok-payload.later in
    let both : Some later ≡ Some last = search rules in
    let same : later ≡ last = cc in
    let some : c.args.changes.items ≡ [] → ⊥ = search rules in
    let few : nat_lt MOST_RECORD_BYTES (length (spelled c.args.changes.items)) ≡ false = search rules in
    let view : kept ≡ c.args.self.now.kept = ap (λ v. v.kept) c.self.view_is in
    let bounds : c.prepare.new.journal.bounds ≡ c.args.self.now.bounds = search rules in
    let layout : c.prepare.new.journal.layout ≡ c.args.self.now.layout = search rules in
    let payload : c.deref-2.result.now ≡ spelled c.args.changes.items = search rules in
    let as_planned = payloads_by_layout c.args.self.now.bounds (work_of c.args.self.now) c.args.changes.items later ps some few in
    c.write_all.ensures.payloads told kept last (search rules) ps are none_wrong ∙ ap (λ (qs : List (List ℕ)). Ok qs) (rw (bounds, layout, payload, view, sym same) (sym as_planned))

pub returns-in-Ok-clause-payloads : goal.returns-in-Ok-clause-payloads
returns-in-Ok-clause-payloads g c told ps later are made decided = payloads_written g (goal.at.returns-in-Ok-clause-payloads g c).After-write_all told ps later are made (search rules)

pub returns-clause-payloads : goal.returns-clause-payloads
returns-clause-payloads g c told ps later are made decided = payloads_written g (goal.at.returns-clause-payloads g c).After-write_all told ps later are made (search rules)

pub returns-clause-unfit_stops : goal.returns-clause-unfit_stops
returns-clause-unfit_stops g c told quiet later refusal made refused =
    let kept : Workspace = c.self.inside.contents in
    let last : Workspace = later_of c.prepare.new.contents c.in_ok-payload.later in
    let both : Some later ≡ Some last = search rules in
    let same : later ≡ last = cc in
    let some : c.args.changes.items ≡ [] → ⊥ = search rules in
    let few : nat_lt MOST_RECORD_BYTES (length (spelled c.args.changes.items)) ≡ false = search rules in
    let it = refused_by_layout c.args.self.now.bounds (work_of c.args.self.now) c.args.changes.items later refusal some few refused in
    let bounds : c.prepare.new.journal.bounds ≡ c.args.self.now.bounds = search rules in
    let layout : c.prepare.new.journal.layout ≡ c.args.self.now.layout = search rules in
    let payload : length c.deref-2.result.now ≡ length (spelled c.args.changes.items) = search rules in
    subst (λ (w : Workspace). Leaves g.H.Host.clock g.H.Host.stopped c.args.host.now c.write_all.new.host (StillOpens w (g.H.Host.now c.args.host.now).said)) (ap (λ v. v.kept) c.self.view_is)
    (c.write_all.ensures.unfit_stops told quiet kept last refusal (search rules) (search rules) (rw (bounds, layout, payload, ap (λ v. v.kept) c.self.view_is, sym same) it))

pub invariant_of-self-in-Err : goal.invariant_of-self-in-Err
invariant_of-self-in-Err g c = (c.in_ok-payload.ensures.standing.0, c.in_ok-payload.ensures.standing.1, search rules)

pub returns-clause-work : goal.returns-clause-work
returns-clause-work g c later made decided =
    let kept : Workspace = c.self.inside.contents in
    let last : Workspace = later_of c.prepare.new.contents c.in_ok-payload.later in
    let both : Some later ≡ Some last = search rules in
    let same : later ≡ last = cc in
    let some : c.args.changes.items ≡ [] → ⊥ = search rules in
    let few : nat_lt MOST_RECORD_BYTES (length (spelled c.args.changes.items)) ≡ false = search rules in
    let view : kept ≡ c.args.self.now.kept = ap (λ v. v.kept) c.self.view_is in
    let bounds : c.prepare.new.journal.bounds ≡ c.args.self.now.bounds = search rules in
    let layout : c.prepare.new.journal.layout ≡ c.args.self.now.layout = search rules in
    let payload : length c.deref-2.result.now ≡ length (spelled c.args.changes.items) = search rules in
    let full : IsFull c.write_all.result = decided_is_full c.write_all.result c.in-Err.fault c.from.result c.in-Err.is c.from.ensures decided in
    let stays : c.prepare.new.contents ≡ kept = search rules in
    let answers = c.write_all.ensures.layouts kept last (search rules) in
    full_work c.args.self.now.bounds (work_of c.args.self.now) c.prepare.new.contents c.write_all.new.journal.layout c.args.changes.items later c.write_all.result full some few (stays ∙ view)
    (rw (sym bounds, sym layout, sym payload, sym view, same) answers)

pub returns-clause-holds : goal.returns-clause-holds
returns-clause-holds g c told none_wrong =
    let kept : Workspace = c.self.inside.contents in
    let last : Workspace = later_of c.prepare.new.contents c.in_ok-payload.later in
    let same : c.prepare.new.contents ≡ kept = search rules in
    let opens : OpensTo (g.H.Host.now c.write_all.new.host).image kept = c.write_all.ensures.full_opens told kept last (search rules) (search rules) (search rules) in
    record {
      layout = search rules;
      opens_to = subst (λ (w : Workspace). OpensTo (g.H.Host.now c.write_all.new.host).image w) (sym same) opens;
    }
