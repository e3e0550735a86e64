use Rattle.std.proofs.Common.{rules, ◌≡◌, ◌∙◌, List, ℕ, length, inl, inr, refl, sym, ap, subst}
use Rattle.abc_journal.specs.Journal.{BeginsQuiet}
use Rattle.abc_turns.specs.Session.{replies, works, last_work, waiting}
use Rattle.abc_turns.specs.Stops.{IsBroken}
use Rattle.abc_outside.specs.Stop.{Leaves}
use Rattle.abc_reader.specs.Asking.{Asked}
use Rattle.std.specs.Prelude.{Err}
use Rattle.abc_store.specs.Opening.{Opens}
use Rattle.abc_store.specs.Commit.{Work}
use Rattle.abc_session.specs.declared.status.TheConstants.{NOT_A_STORE}
use Rattle.abc_session.specs.Session.{Told, session_of}
use Rattle.abc_session.specs.Run.{store_in, made_in, chose, IsStart, IsWhole}
use Rattle.abc_session.specs.Serving.{OpensTo, IsSessionPoint, IsStill}
use Rattle.abc_session.specs.Told.{WithTold}
use Rattle.abc_session.proofs.Told.{by_all, with_weaker}
use Rattle.abc_session.specs.Settled.{AsksSettled}
use Rattle.abc_reader.proofs.Asks.{none_asked}
use Rattle.abc_session.proofs.Broken.{idle_broken}
use Rattle.abc_session.proofs.Runs.{not_wrong, choice_points, choice_still, run_points, run_still, quiet_after, last_opens, one_start, same_choice, choice_now, same_whole, same_complete, same_stands, names_one}
use Rattle.abc_session.proofs.running.run_named.Given.{Over}
use Rattle.abc_session.proofs.running.run_named.Goals.{After-choose}
use Rattle.abc_session.proofs.running.run_named.Goals as goal

-- nothing is pending after the choice, and the image gives the same start
chosen_quiet : (g : Over) (c : After-choose g) → IsStill g.H.Host.clock g.H.Host.stopped c.args.host.now (g.H.Host.now c.args.host.now).image → BeginsQuiet g.H.Host.clock g.H.Host.stopped c.choose.new.self (g.H.Host.now c.choose.new.self).image
chosen_quiet g c still =
    quiet_after g.H.Host.clock g.H.Host.stopped c.args.host.now c.choose.new.self (g.H.Host.now c.args.host.now).image (g.H.Host.now c.choose.new.self).image still c.choose.ensures.rest.image c.choose.ensures.stop

chosen_start : (g : Over) (c : After-choose g) (work : Work) → IsStart (g.H.Host.now c.args.host.now).image work → IsStart (g.H.Host.now c.choose.new.self).image work
chosen_start g c work start = subst (λ (i : List ℕ). IsStart i work) (sym c.choose.ensures.rest.image) start

-- what is so of the run on the store that was chosen is so of the whole run
of_choice : (g : Over) (c : After-choose g) (P : List ℕ → List ℕ → Type 0) → P (g.H.Host.now c.choose.new.self).left (g.H.Host.now c.choose.new.self).said → P (g.H.Host.now c.args.host.now).left (g.H.Host.now c.args.host.now).said
of_choice g c P =
    same_choice P (g.H.Host.now c.args.host.now).left (g.H.Host.now c.choose.new.self).left (g.H.Host.now c.args.host.now).said (g.H.Host.now c.choose.new.self).said c.choose.ensures.rest.left c.choose.ensures.rest.said

-- a choice that failed asks for nothing
none_asked_by : (g : Over) (c : After-choose g) (types : Told) (steps : ℕ) (work : Work)
    → Asked (AsksSettled types c.args.b.now steps work (g.H.Host.now c.args.host.now).left (length (g.H.Host.now c.args.host.now).said)) (g.H.Host.now c.args.host.now).asked (g.H.Host.now c.choose.new.self).asked
none_asked_by g c types steps work =
    let old = g.H.Host.now c.args.host.now in
    subst (λ (a : List (ℕ × ℕ)). Asked (AsksSettled types c.args.b.now steps work old.left (length old.said)) old.asked a) (sym c.choose.ensures.rest.asked) (none_asked _ _)

pub returns-in-Err-Store : goal.returns-in-Err-Store
returns-in-Err-Store g c =
    let old = g.H.Host.now c.args.host.now in
    let mid = g.H.Host.now c.choose.new.self in
    let chosen = (goal.at.returns-in-Err-Store g c).After-choose in
    record {
      run = λ words reads. record {
        complete = search rules;
        status_is = search rules;
        usage = search rules;
        unread = λ none. absurd (cc (reads, none));
        cause = search rules;
        refused = search rules;
        waits = search rules;
        most_taken = search rules;
        completeness = search rules;
        usage_nothing = search rules;
        unread_nothing = λ none. absurd (cc (reads, none));
        untouched = search rules;
        untouched_stops = λ unmade told still at wrong.
            choice_still g.H.Host.clock g.H.Host.stopped c.args.host.now old.image old.said still (g.met.H.Host.says_now c.args.host.now) c.choose.new.self c.choose.ensures.time c.choose.ensures.stop;
        chosen = search rules;
        none_chosen = λ none. absurd (cc (ap store_in reads, none));
        asked = λ told told_said told_input work start. by_all c.args.b.now c.args.steps work old.left (λ types. Asked (AsksSettled types c.args.b.now c.args.steps work old.left (length old.said)) old.asked mid.asked) (λ types. none_asked_by g chosen types c.args.steps work);
        asks_rise = search rules;
        stands = λ unmade told told_said told_input still work start. inr (record {
          waiting = search rules;
          between = search rules;
          broken = λ _. by_all c.args.b.now c.args.steps work old.left (λ types. IsBroken OpensTo (works work (session_of types c.args.b.now c.args.steps work old.left)) (replies (session_of types c.args.b.now c.args.steps work old.left)) old.said mid.said (g.H.Host.stopped c.choose.new.self (g.H.Host.clock c.choose.new.self))) (λ types. idle_broken work (session_of types c.args.b.now c.args.steps work old.left) old.said mid.said (g.H.Host.stopped c.choose.new.self (g.H.Host.clock c.choose.new.self)) c.choose.ensures.rest.said
              (choice_now g.H.Host.clock g.H.Host.stopped c.args.host.now c.choose.new.self old.image work still start c.choose.ensures.stop));
          cut_short = search rules;
        });
        headline = λ unmade told told_said told_input still work start.
            by_all c.args.b.now c.args.steps work old.left (λ types. (i s : List ℕ) → g.H.Host.stopped c.choose.new.self (g.H.Host.clock c.args.host.now) i s → IsSessionPoint work (session_of types c.args.b.now c.args.steps work old.left) old.said i s) (λ types.
            choice_points g.H.Host.clock g.H.Host.stopped c.args.host.now old.image old.said work (session_of types c.args.b.now c.args.steps work old.left)
            still (g.met.H.Host.says_now c.args.host.now) start c.choose.new.self c.choose.ensures.time c.choose.ensures.stop);
        last = search rules;
        made = λ count is. absurd (cc (ap made_in reads, is));
      };
    }

pub returns-in-Err-Input : goal.returns-in-Err-Input
returns-in-Err-Input g c =
    let old = g.H.Host.now c.args.host.now in
    let mid = g.H.Host.now c.choose.new.self in
    let chosen = (goal.at.returns-in-Err-Input g c).After-choose in
    record {
      run = λ words reads. record {
        complete = search rules;
        status_is = search rules;
        usage = search rules;
        unread = λ none. absurd (cc (reads, none));
        cause = search rules;
        refused = search rules;
        waits = search rules;
        most_taken = search rules;
        completeness = search rules;
        usage_nothing = search rules;
        unread_nothing = λ none. absurd (cc (reads, none));
        untouched = search rules;
        untouched_stops = λ unmade told still at wrong.
            choice_still g.H.Host.clock g.H.Host.stopped c.args.host.now old.image old.said still (g.met.H.Host.says_now c.args.host.now) c.choose.new.self c.choose.ensures.time c.choose.ensures.stop;
        chosen = search rules;
        none_chosen = λ none. absurd (cc (ap store_in reads, none));
        asked = λ told told_said told_input work start. by_all c.args.b.now c.args.steps work old.left (λ types. Asked (AsksSettled types c.args.b.now c.args.steps work old.left (length old.said)) old.asked mid.asked) (λ types. none_asked_by g chosen types c.args.steps work);
        asks_rise = search rules;
        stands = λ unmade told told_said told_input still work start. inl (record {
          input_fault = refl;
          chosen = search rules;
          taken = search rules;
          said = search rules;
          image = choice_now g.H.Host.clock g.H.Host.stopped c.args.host.now c.choose.new.self old.image work still start c.choose.ensures.stop;
        });
        headline = λ unmade told told_said told_input still work start.
            by_all c.args.b.now c.args.steps work old.left (λ types. (i s : List ℕ) → g.H.Host.stopped c.choose.new.self (g.H.Host.clock c.args.host.now) i s → IsSessionPoint work (session_of types c.args.b.now c.args.steps work old.left) old.said i s) (λ types.
            choice_points g.H.Host.clock g.H.Host.stopped c.args.host.now old.image old.said work (session_of types c.args.b.now c.args.steps work old.left)
            still (g.met.H.Host.says_now c.args.host.now) start c.choose.new.self c.choose.ensures.time c.choose.ensures.stop);
        last = search rules;
        made = λ count is. absurd (cc (ap made_in reads, is));
      };
    }

pub returns-in-Ok : goal.returns-in-Ok
returns-in-Ok g c =
    let old = g.H.Host.now c.args.host.now in
    let mid = g.H.Host.now c.choose.new.self in
    let new = g.H.Host.now c.run_store.new.host in
    let chosen = (goal.at.returns-in-Ok g c).After-choose in
    record {
      run = λ words reads. record {
        complete = λ unmade told told_said told_input is. same_complete c.args.b.now c.args.steps old mid new c.choose.ensures.rest.image c.choose.ensures.rest.left c.choose.ensures.rest.said (c.run_store.ensures.complete told told_said told_input is);
        status_is = search rules;
        usage = search rules;
        unread = λ none. absurd (cc (reads, none));
        cause = search rules;
        refused = search rules;
        waits = λ told told_input work start is. of_choice g chosen (λ l t. WithTold c.args.b.now c.args.steps work l (λ types. (session_of types c.args.b.now c.args.steps work l).ending ≡ waiting)) (c.run_store.ensures.waits told told_input work (chosen_start g chosen work start) is);
        most_taken = search rules;
        completeness = λ told kept right none.
            let no_wrong : c.run_store.result ≡ NOT_A_STORE → ⊥ = λ is.
            let found = c.run_store.ensures.cause.not_a_store told is in
            not_wrong c.images_open_to_one.ensures.one old.image kept found.0 right (subst (λ (i : List ℕ). Opens i (Err found.0)) c.choose.ensures.rest.image found.1) in
            search rules;
        usage_nothing = search rules;
        unread_nothing = λ none. absurd (cc (reads, none));
        untouched = search rules;
        untouched_stops = λ unmade told still at wrong.
            run_still g.H.Host.clock g.H.Host.stopped c.args.host.now old.image old.said still (g.met.H.Host.says_now c.args.host.now) c.choose.new.self c.run_store.new.host c.choose.ensures.time c.choose.ensures.stop
            (c.run_store.ensures.untouched_stops told at (subst (λ (i : List ℕ). Opens i (Err at)) (sym c.choose.ensures.rest.image) wrong));
        chosen = λ told named is. inl (c.run_store.ensures.chosen ∙ c.in-Ok.ensures.chosen told ∙ ap (λ n. chose n old.chosen) (names_one words _ _ _ reads named is));
        none_chosen = λ none. absurd (cc (ap store_in reads, none));
        asked = λ told told_said told_input work start.
            subst (λ (a : List (ℕ × ℕ)). WithTold c.args.b.now c.args.steps work old.left (λ types. Asked (AsksSettled types c.args.b.now c.args.steps work old.left (length old.said)) a new.asked)) c.choose.ensures.rest.asked
            (of_choice g chosen (λ l t. WithTold c.args.b.now c.args.steps work l (λ types. Asked (AsksSettled types c.args.b.now c.args.steps work l (length t)) mid.asked new.asked)) (c.run_store.ensures.asked told told_said told_input work (chosen_start g chosen work start)));
        asks_rise = search rules;
        stands = λ unmade told told_said told_input still work start.
            inr (same_stands c.args.b.now c.args.steps work old mid new (g.H.Host.stopped c.run_store.new.host (g.H.Host.clock c.run_store.new.host)) c.run_store.result c.choose.ensures.rest.left c.choose.ensures.rest.said
            (c.run_store.ensures.stands told told_said told_input (chosen_quiet g chosen still) work (chosen_start g chosen work start)));
        headline = λ unmade told told_said told_input still work start.
            with_weaker c.args.b.now c.args.steps work old.left (λ types. Leaves g.H.Host.clock g.H.Host.stopped c.choose.new.self c.run_store.new.host (IsSessionPoint work (session_of types c.args.b.now c.args.steps work old.left) mid.said))
            (λ types. (i s : List ℕ) → g.H.Host.stopped c.run_store.new.host (g.H.Host.clock c.args.host.now) i s → IsSessionPoint work (session_of types c.args.b.now c.args.steps work old.left) old.said i s)
            (λ types leaves.
            run_points g.H.Host.clock g.H.Host.stopped c.args.host.now old.image old.said work (session_of types c.args.b.now c.args.steps work old.left)
            still (g.met.H.Host.says_now c.args.host.now) start c.choose.new.self c.run_store.new.host mid.image mid.said (session_of types c.args.b.now c.args.steps work old.left) c.choose.ensures.time c.choose.ensures.stop
            refl c.choose.ensures.rest.said leaves)
            (subst (λ (l : List ℕ). WithTold c.args.b.now c.args.steps work l (λ types. Leaves g.H.Host.clock g.H.Host.stopped c.choose.new.self c.run_store.new.host (IsSessionPoint work (session_of types c.args.b.now c.args.steps work l) mid.said)))
            c.choose.ensures.rest.left (c.run_store.ensures.stops told told_said told_input (chosen_quiet g chosen still) work (chosen_start g chosen work start)));
        last = λ unmade told told_said told_input still is work start.
            let all = c.run_store.ensures.complete told told_said told_input is in
            let same : all.start ≡ work = one_start c.images_open_to_one.ensures.one mid.image all.start work all.is_start (chosen_start g chosen work start) in
            let whole : WithTold c.args.b.now c.args.steps work old.left (λ types. IsWhole types c.args.b.now c.args.steps work old new) =
            with_weaker c.args.b.now c.args.steps work old.left (λ types. IsWhole types c.args.b.now c.args.steps work mid new) (λ types. IsWhole types c.args.b.now c.args.steps work old new)
            (λ types w. same_whole types c.args.b.now c.args.steps work old mid new c.choose.ensures.rest.left c.choose.ensures.rest.said w)
            (subst (λ (l : List ℕ). WithTold c.args.b.now c.args.steps work l (λ types. IsWhole types c.args.b.now c.args.steps work mid new)) c.choose.ensures.rest.left
            (subst (λ w. WithTold c.args.b.now c.args.steps w mid.left (λ types. IsWhole types c.args.b.now c.args.steps w mid new)) same all.whole)) in
            with_weaker c.args.b.now c.args.steps work old.left (λ types. IsWhole types c.args.b.now c.args.steps work old new)
            (λ types. (i s : List ℕ) → g.H.Host.stopped c.run_store.new.host (g.H.Host.clock c.run_store.new.host) i s → OpensTo i (last_work work (session_of types c.args.b.now c.args.steps work old.left)))
            (λ types w i s stop. last_opens new.image i _ w.holds (c.run_store.ensures.quiet told (chosen_quiet g chosen still) is i s stop)) whole;
        made = λ count is. absurd (cc (ap made_in reads, is));
      };
    }
