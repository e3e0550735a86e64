use Rattle.std.proofs.Common.{rules, ◌≡◌, inl, inr, ◌∙◌, ℕ, List, [], ◌∷◌, ◌++◌, not, length, option_map, sym, ap, subst}
use Rattle.std.specs.Prelude.{Ok, Err, OnOk, IsErrOf}
use Rattle.abc_outside.specs.Stop.{Leaves, IsQuiet}
use Rattle.abc_outside.proofs.Leaves.{run_after, weaken}
use Rattle.abc_journal.specs.declared.faults.AppendFault.TheVariants.{Memory}
use Rattle.abc_journal.specs.Image.{payloads_of}
use Rattle.abc_journal.specs.Commit.{AnswersTo, recorded, with_room, with_due, is_due}
use Rattle.abc_store.specs.Workspace.{Workspace, checkpoint_of}
use Rattle.abc_store.specs.Opening.{OpensTo}
use Rattle.abc_store.specs.Commit.{payloads_with_room, payloads_with_due, OpensToEither, StillOpens}
use Rattle.abc_store.specs.inner.Steps.{fits, IsPlan, TakesDue}
use Rattle.abc_store.proofs.Stepping.{failed_is_full, full_found, ok_alone, room_fails, record_fails, full_is_unfit, all_done, takes_due, no_record, not_recorded, room_fails_payloads, record_fails_payloads, all_done_payloads, renewed_is}
use Rattle.abc_store.proofs.steps.write_all.Given.{Over}
use Rattle.abc_store.proofs.steps.write_all.Goals.{In_ok-make_room, After-add_record, In_ok-add_record}
use Rattle.abc_store.proofs.steps.write_all.Goals as goal

pub returns-in_err-make_room-clause-layouts : goal.returns-in_err-make_room-clause-layouts
returns-in_err-make_room-clause-layouts g c kept later plan =
    let journal = c.args.journal.now in
    let failed : OnOk c.from_residual.result ⊥ = search rules in
    let answer : AnswersTo c.from_residual.result c.make_room.new.journal.layout (with_room journal.bounds journal.layout (length c.args.payload.now) (length (checkpoint_of kept))) = search rules in
    room_fails journal.bounds journal.layout (length c.args.payload.now) (length (checkpoint_of kept)) (length (checkpoint_of later)) c.from_residual.result c.make_room.new.journal.layout failed answer

pub returns-in_err-make_room-clause-unfit : goal.returns-in_err-make_room-clause-unfit
returns-in_err-make_room-clause-unfit g c kept later plan =
    let journal = c.args.journal.now in
    let failed : OnOk c.from_residual.result ⊥ = search rules in
    let answer : AnswersTo c.from_residual.result c.make_room.new.journal.layout (with_room journal.bounds journal.layout (length c.args.payload.now) (length (checkpoint_of kept))) = search rules in
    full_is_unfit journal.bounds journal.layout (length c.args.payload.now) (length (checkpoint_of kept)) (length (checkpoint_of later)) c.from_residual.result c.make_room.new.journal.layout
    (room_fails journal.bounds journal.layout (length c.args.payload.now) (length (checkpoint_of kept)) (length (checkpoint_of later)) c.from_residual.result c.make_room.new.journal.layout failed answer)

pub returns-in_err-add_record-clause-layouts : goal.returns-in_err-add_record-clause-layouts
returns-in_err-add_record-clause-layouts g c kept later plan =
    let journal = c.args.journal.now in
    let bytes = length c.args.payload.now in
    let failed : OnOk c.from_residual-in_err-add_record.result ⊥ = search rules in
    let room : with_room journal.bounds journal.layout bytes (length (checkpoint_of kept)) ≡ Ok c.make_room.new.journal.layout = c.in_ok-make_room.ensures.layouts bytes kept plan.room in
    let answer : AnswersTo c.from_residual-in_err-add_record.result c.add_record.new.journal.layout (recorded c.make_room.new.journal.bounds c.make_room.new.journal.layout bytes) = search rules in
    record_fails journal.bounds journal.layout bytes (length (checkpoint_of kept)) (length (checkpoint_of later)) c.from_residual-in_err-add_record.result c.make_room.new.journal.layout c.add_record.new.journal.layout failed room
    (subst (λ b. AnswersTo c.from_residual-in_err-add_record.result c.add_record.new.journal.layout (recorded b c.make_room.new.journal.layout bytes)) c.make_room.ensures.bounds answer)

pub returns-in_err-add_record-clause-unfit : goal.returns-in_err-add_record-clause-unfit
returns-in_err-add_record-clause-unfit g c kept later plan =
    let journal = c.args.journal.now in
    let bytes = length c.args.payload.now in
    let failed : OnOk c.from_residual-in_err-add_record.result ⊥ = search rules in
    let room : with_room journal.bounds journal.layout bytes (length (checkpoint_of kept)) ≡ Ok c.make_room.new.journal.layout = c.in_ok-make_room.ensures.layouts bytes kept plan.room in
    let answer : AnswersTo c.from_residual-in_err-add_record.result c.add_record.new.journal.layout (recorded c.make_room.new.journal.bounds c.make_room.new.journal.layout bytes) = search rules in
    full_is_unfit journal.bounds journal.layout bytes (length (checkpoint_of kept)) (length (checkpoint_of later)) c.from_residual-in_err-add_record.result c.add_record.new.journal.layout
    (record_fails journal.bounds journal.layout bytes (length (checkpoint_of kept)) (length (checkpoint_of later)) c.from_residual-in_err-add_record.result c.make_room.new.journal.layout c.add_record.new.journal.layout failed room
    (subst (λ b. AnswersTo c.from_residual-in_err-add_record.result c.add_record.new.journal.layout (recorded b c.make_room.new.journal.layout bytes)) c.make_room.ensures.bounds answer))

-- the stops up to the end of the record
up_to_record : (g : Over) (c : After-add_record g) → g.H.Host.tells_image → IsQuiet g.H.Host.clock g.H.Host.stopped c.args.host.now (g.H.Host.now c.args.host.now).image → (kept later : Workspace)
    → IsPlan c.args.journal.now.bounds c.args.journal.now.layout c.args.payload.now (option_map (λ p. p.now) c.args.before) (option_map (λ p. p.now) c.args.after) kept later
    → OpensTo (g.H.Host.now c.args.host.now).image kept
    → Leaves g.H.Host.clock g.H.Host.stopped c.args.host.now c.add_record.new.host (OpensToEither kept later (g.H.Host.now c.args.host.now).said)
up_to_record g c told quiet kept later plan is =
    let wanted = not (fits c.args.journal.now.bounds c.args.journal.now.layout (length c.args.payload.now)) in
    let mid : OpensTo (g.H.Host.now c.make_room.new.host).image kept = c.in_ok-make_room.ensures.opens told wanted kept plan.room is tt in
    run_after g.H.Host.clock g.H.Host.stopped c.args.host.now c.make_room.new.host c.add_record.new.host _ _
    (weaken_room g c told quiet kept later plan is)
    (c.add_record.ensures.stops told (c.in_ok-make_room.ensures.quiet told quiet tt) kept later plan.leads plan.typed mid)
    (λ i s q. (q.0 ∙ c.make_room.ensures.rest.said, q.1))
  where
    weaken_room : (g : Over) (c : After-add_record g) → g.H.Host.tells_image → IsQuiet g.H.Host.clock g.H.Host.stopped c.args.host.now (g.H.Host.now c.args.host.now).image → (kept later : Workspace)
        → IsPlan c.args.journal.now.bounds c.args.journal.now.layout c.args.payload.now (option_map (λ p. p.now) c.args.before) (option_map (λ p. p.now) c.args.after) kept later
        → OpensTo (g.H.Host.now c.args.host.now).image kept
        → Leaves g.H.Host.clock g.H.Host.stopped c.args.host.now c.make_room.new.host (OpensToEither kept later (g.H.Host.now c.args.host.now).said)
    weaken_room g c told quiet kept later plan is =
        weaken g.H.Host.clock g.H.Host.stopped c.args.host.now c.make_room.new.host _ _ (c.make_room.ensures.stops told quiet _ kept plan.room is) (λ i s q. (q.0, inl q.1))

pub returns-in_err-add_record-clause-stops : goal.returns-in_err-add_record-clause-stops
returns-in_err-add_record-clause-stops g c told quiet kept later plan is = up_to_record g (goal.at.returns-in_err-add_record-clause-stops g c).After-add_record told quiet kept later plan is

-- the due checkpoint is there where it is taken, by the layout that the record leads to
due : (g : Over) (c : In_ok-add_record g) (kept later : Workspace)
    → IsPlan c.args.journal.now.bounds c.args.journal.now.layout c.args.payload.now (option_map (λ p. p.now) c.args.before) (option_map (λ p. p.now) c.args.after) kept later
    → TakesDue (is_due c.args.journal.now.bounds c.add_record.new.journal.layout) (option_map (λ p. p.now) c.args.after) later
due g c kept later plan =
    let journal = c.args.journal.now in
    let bytes = length c.args.payload.now in
    let recorded_is : recorded journal.bounds c.make_room.new.journal.layout bytes ≡ Ok c.add_record.new.journal.layout =
    ap (λ b. recorded b c.make_room.new.journal.layout bytes) (sym c.make_room.ensures.bounds) ∙ c.in_ok-add_record.ensures.layouts in
    takes_due journal.bounds journal.layout c.make_room.new.journal.layout c.add_record.new.journal.layout bytes (length (checkpoint_of kept)) _ later plan.due (c.in_ok-make_room.ensures.layouts bytes kept plan.room) recorded_is

later_opens : (g : Over) (c : In_ok-add_record g) → g.H.Host.tells_image → (kept later : Workspace)
    → IsPlan c.args.journal.now.bounds c.args.journal.now.layout c.args.payload.now (option_map (λ p. p.now) c.args.before) (option_map (λ p. p.now) c.args.after) kept later
    → OpensTo (g.H.Host.now c.args.host.now).image kept → OpensTo (g.H.Host.now c.add_record.new.host).image later
later_opens g c told kept later plan is =
    c.in_ok-add_record.ensures.opens told kept later plan.leads plan.typed
    (c.in_ok-make_room.ensures.opens told (not (fits c.args.journal.now.bounds c.args.journal.now.layout (length c.args.payload.now))) kept plan.room is tt)

pub returns-clause-layouts : goal.returns-clause-layouts
returns-clause-layouts g c kept later plan =
    let journal = c.args.journal.now in
    let bytes = length c.args.payload.now in
    let bounds : c.add_record.new.journal.bounds ≡ journal.bounds = c.add_record.ensures.bounds ∙ c.make_room.ensures.bounds in
    let recorded_is : recorded journal.bounds c.make_room.new.journal.layout bytes ≡ Ok c.add_record.new.journal.layout =
    ap (λ b. recorded b c.make_room.new.journal.layout bytes) (sym c.make_room.ensures.bounds) ∙ c.in_ok-add_record.ensures.layouts in
    let is_due_here : TakesDue (is_due c.add_record.new.journal.bounds c.add_record.new.journal.layout) (option_map (λ p. p.now) c.args.after) later =
    subst (λ b. TakesDue (is_due b c.add_record.new.journal.layout) (option_map (λ p. p.now) c.args.after) later) (sym bounds) (due g (goal.at.returns-clause-layouts g c).In_ok-add_record kept later plan) in
    all_done journal.bounds journal.layout bytes (length (checkpoint_of kept)) (length (checkpoint_of later)) c.take_due.result c.make_room.new.journal.layout c.add_record.new.journal.layout c.take_due.new.journal.layout
    (c.in_ok-make_room.ensures.layouts bytes kept plan.room) recorded_is c.take_due.ensures.no_other
    (subst (λ b. OnOk c.take_due.result (c.take_due.new.journal.layout ≡ with_due b c.add_record.new.journal.layout (length (checkpoint_of later)))) bounds (c.take_due.ensures.layouts later is_due_here))

pub returns-clause-opens : goal.returns-clause-opens
returns-clause-opens g c told kept later plan is =
    let before = (goal.at.returns-clause-opens g c).In_ok-add_record in
    c.take_due.ensures.opens told _ later (due g before kept later plan) (later_opens g before told kept later plan is)

pub returns-in_err-make_room-clause-payloads : goal.returns-in_err-make_room-clause-payloads
returns-in_err-make_room-clause-payloads g c told kept later plan ps are none_wrong =
    let journal = c.args.journal.now in
    let before = checkpoint_of kept in
    let failed : OnOk c.from_residual.result ⊥ = search rules in
    let memory : IsErrOf c.from_residual.result Memory → ⊥ = search rules in
    let answer : AnswersTo c.from_residual.result c.make_room.new.journal.layout (with_room journal.bounds journal.layout (length c.args.payload.now) (length before)) = search rules in
    let is_full = failed_is_full c.from_residual.result failed memory none_wrong in
    let found = full_found c.from_residual.result c.make_room.new.journal.layout _ answer is_full in
    let same : c.make_room.new.host ≡ c.args.host.now = search rules in
    ap (λ h. payloads_of (g.H.Host.now h).image) same ∙ are
    ∙ sym (ap (λ (qs : List (List ℕ)). Ok qs) (room_fails_payloads journal.bounds journal.layout c.args.payload.now before (checkpoint_of later) ps found.0 found.1))

-- the payloads where room was made
with_room_now : (g : Over) (c : In_ok-make_room g) → g.H.Host.tells_image → (kept later : Workspace)
    → IsPlan c.args.journal.now.bounds c.args.journal.now.layout c.args.payload.now (option_map (λ p. p.now) c.args.before) (option_map (λ p. p.now) c.args.after) kept later
    → (ps : List (List ℕ)) → payloads_of (g.H.Host.now c.args.host.now).image ≡ Ok ps
    → payloads_of (g.H.Host.now c.make_room.new.host).image ≡ Ok (payloads_with_room c.args.journal.now.bounds c.args.journal.now.layout (length c.args.payload.now) (checkpoint_of kept) ps)
with_room_now g c told kept later plan ps are =
    let journal = c.args.journal.now in
    let bytes = length c.args.payload.now in
    c.in_ok-make_room.ensures.payloads told ps are
    ∙ ap (λ (qs : List (List ℕ)). Ok qs)
    (renewed_is journal.bounds journal.layout c.make_room.new.journal.layout bytes kept ps (option_map (λ p. p.now) c.args.before) plan.room (c.in_ok-make_room.ensures.layouts bytes kept plan.room))

pub returns-in_err-add_record-clause-payloads : goal.returns-in_err-add_record-clause-payloads
returns-in_err-add_record-clause-payloads g c told kept later plan ps are none_wrong =
    let journal = c.args.journal.now in
    let bytes = length c.args.payload.now in
    let roomy = c.make_room.new.journal.layout in
    let result = c.from_residual-in_err-add_record.result in
    let failed : OnOk result ⊥ = search rules in
    let memory : IsErrOf result Memory → ⊥ = search rules in
    let answer : AnswersTo result c.add_record.new.journal.layout (recorded c.make_room.new.journal.bounds roomy bytes) = search rules in
    let is_full = failed_is_full result failed memory none_wrong in
    let found = full_found result c.add_record.new.journal.layout _ (subst (λ b. AnswersTo result c.add_record.new.journal.layout (recorded b roomy bytes)) c.make_room.ensures.bounds answer) is_full in
    let same : c.add_record.new.host ≡ c.make_room.new.host = search rules in
    ap (λ h. payloads_of (g.H.Host.now h).image) same
    ∙ with_room_now g (goal.at.returns-in_err-add_record-clause-payloads g c).In_ok-make_room told kept later plan ps are
    ∙ sym (ap (λ (qs : List (List ℕ)). Ok qs) (record_fails_payloads journal.bounds journal.layout c.args.payload.now (checkpoint_of kept) (checkpoint_of later) ps roomy (c.in_ok-make_room.ensures.layouts bytes kept plan.room) found.0 found.1))

pub returns-clause-payloads : goal.returns-clause-payloads
returns-clause-payloads g c told kept later plan ps are none_wrong =
    let journal = c.args.journal.now in
    let bytes = length c.args.payload.now in
    let roomy = c.make_room.new.journal.layout in
    let added = c.add_record.new.journal.layout in
    let bounds : c.add_record.new.journal.bounds ≡ journal.bounds = c.add_record.ensures.bounds ∙ c.make_room.ensures.bounds in
    let recorded_is : recorded journal.bounds roomy bytes ≡ Ok added = ap (λ b. recorded b roomy bytes) (sym c.make_room.ensures.bounds) ∙ c.in_ok-add_record.ensures.layouts in
    let is_due_here : TakesDue (is_due c.add_record.new.journal.bounds added) (option_map (λ p. p.now) c.args.after) later =
    subst (λ b. TakesDue (is_due b added) (option_map (λ p. p.now) c.args.after) later) (sym bounds) (due g (goal.at.returns-clause-payloads g c).In_ok-add_record kept later plan) in
    let mid = c.in_ok-add_record.ensures.payloads told _ (with_room_now g (goal.at.returns-clause-payloads g c).In_ok-make_room told kept later plan ps are) in
    let done : OnOk c.take_due.result (payloads_of (g.H.Host.now c.take_due.new.host).image ≡ Ok (payloads_with_due journal.bounds added (checkpoint_of later) (payloads_with_room journal.bounds journal.layout bytes (checkpoint_of kept) ps ++ c.args.payload.now ∷ []))) =
    subst (λ b. OnOk c.take_due.result (payloads_of (g.H.Host.now c.take_due.new.host).image ≡ Ok (payloads_with_due b added (checkpoint_of later) (payloads_with_room journal.bounds journal.layout bytes (checkpoint_of kept) ps ++ c.args.payload.now ∷ [])))) bounds
    (c.take_due.ensures.payloads told later is_due_here _ mid) in
    ok_alone c.take_due.result _ done c.take_due.ensures.no_other none_wrong
    ∙ sym (ap (λ (qs : List (List ℕ)). Ok qs) (all_done_payloads journal.bounds journal.layout c.args.payload.now (checkpoint_of kept) (checkpoint_of later) ps roomy (c.in_ok-make_room.ensures.layouts bytes kept plan.room) added recorded_is))

pub returns-clause-stops : goal.returns-clause-stops
returns-clause-stops g c told quiet kept later plan is =
    let before = (goal.at.returns-clause-stops g c).In_ok-add_record in
    run_after g.H.Host.clock g.H.Host.stopped c.args.host.now c.add_record.new.host c.take_due.new.host _ _
    (up_to_record g (goal.at.returns-clause-stops g c).After-add_record told quiet kept later plan is)
    (c.take_due.ensures.stops told (c.in_ok-add_record.ensures.quiet told (c.in_ok-make_room.ensures.quiet told quiet tt) tt) _ later (due g before kept later plan) (later_opens g before told kept later plan is))
    (λ i s q. (q.0 ∙ c.add_record.ensures.rest.said ∙ c.make_room.ensures.rest.said, inr q.1))

pub returns-clause-quiet : goal.returns-clause-quiet
returns-clause-quiet g c told quiet none_wrong =
    ok_alone c.take_due.result (IsQuiet g.H.Host.clock g.H.Host.stopped c.take_due.new.host (g.H.Host.now c.take_due.new.host).image)
    (c.take_due.ensures.quiet told (c.in_ok-add_record.ensures.quiet told (c.in_ok-make_room.ensures.quiet told quiet tt) tt)) c.take_due.ensures.no_other none_wrong

pub returns-in_err-add_record-clause-unfit_stops : goal.returns-in_err-add_record-clause-unfit_stops
returns-in_err-add_record-clause-unfit_stops g c told quiet kept later refusal plan is refused =
    let journal = c.args.journal.now in
    let bytes = length c.args.payload.now in
    let found = no_record journal.bounds journal.layout c.make_room.new.journal.layout bytes (length (checkpoint_of kept)) (length (checkpoint_of later)) (c.in_ok-make_room.ensures.layouts bytes kept plan.room) later refusal refused in
    let unfit : recorded c.make_room.new.journal.bounds c.make_room.new.journal.layout bytes ≡ Err found.0 =
    ap (λ b. recorded b c.make_room.new.journal.layout bytes) c.make_room.ensures.bounds ∙ found.1 in
    subst (λ h. Leaves g.H.Host.clock g.H.Host.stopped c.args.host.now h (StillOpens kept (g.H.Host.now c.args.host.now).said)) (sym (c.add_record.ensures.full_host (c.add_record.ensures.unfit found.0 unfit)))
    (c.make_room.ensures.stops told quiet _ kept plan.room is)

pub returns-clause-unfit_stops : goal.returns-clause-unfit_stops
returns-clause-unfit_stops g c told quiet kept later refusal plan is refused =
    let journal = c.args.journal.now in
    let bytes = length c.args.payload.now in
    let recorded_is : recorded journal.bounds c.make_room.new.journal.layout bytes ≡ Ok c.add_record.new.journal.layout =
    ap (λ b. recorded b c.make_room.new.journal.layout bytes) (sym c.make_room.ensures.bounds) ∙ c.in_ok-add_record.ensures.layouts in
    absurd (not_recorded journal.bounds journal.layout c.make_room.new.journal.layout bytes (length (checkpoint_of kept)) (length (checkpoint_of later)) (c.in_ok-make_room.ensures.layouts bytes kept plan.room) later refusal refused
    c.add_record.new.journal.layout recorded_is)
