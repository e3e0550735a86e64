use Rattle.std.proofs.Common.{rules, ◌≡◌, ◌∙◌, ◌++◌, List, ℕ, length, sym, ap, subst}
use Rattle.std.specs.Prelude.{Err}
use Rattle.abc_journal.specs.declared.layout.Bounds.{Bounds}
use Rattle.abc_journal.specs.Journal.{BeginsQuiet}
use Rattle.abc_outside.specs.Stop.{Leaves}
use Rattle.abc_outside.proofs.Leaves.{run_after}
use Rattle.abc_turns.specs.Session.{replies, output, works, last_work, waiting}
use Rattle.abc_turns.specs.Stops.{IsBetween, IsBroken, IsCutShort}
use Rattle.abc_reader.specs.Asking.{Asked}
use Rattle.abc_reader.proofs.Asks.{none_asked}
use Rattle.abc_make.specs.Summary.{counted}
use Rattle.abc_store.specs.Commit.{Work, Holds}
use Rattle.abc_store.specs.View.{work_of}
use Rattle.abc_session.specs.Session.{session_of}
use Rattle.abc_session.specs.Told.{WithTold}
use Rattle.abc_session.proofs.Told.{by_all, with_weaker, with_both}
use Rattle.abc_session.specs.Serving.{OpensTo, IsSessionPoint}
use Rattle.abc_session.specs.Settled.{AsksSettled, IsWaiting}
use Rattle.abc_session.specs.Run.{IsStart, HasEnded, IsWhole}
use Rattle.abc_session.specs.declared.serve.ServeStop.TheVariants as serve
use Rattle.abc_session.specs.declared.status.TheConstants.{INPUT_FAULT, INPUT_TOO_LONG}
use Rattle.abc_session.proofs.Broken.{idle_between, idle_broken}
use Rattle.abc_session.proofs.Stops.{either_stop}
use Rattle.abc_session.proofs.Runs.{starts, not_wrong, one_start, opening_points, same_run, same_input, opening_now}
use Rattle.abc_session.proofs.running.run_store.Given.{Over}
use Rattle.abc_session.proofs.running.run_store.Goals.{After-begin, After-serve_all}
use Rattle.abc_session.proofs.running.run_store.Goals as goal

-- while the store is opened every stop leaves the work of the start, and nothing is said
opening_stops : (g : Over) (c : After-begin g) → g.H.Host.tells_image → BeginsQuiet g.H.Host.clock g.H.Host.stopped c.args.host.now (g.H.Host.now c.args.host.now).image → (work : Work) → IsStart (g.H.Host.now c.args.host.now).image work
    → WithTold c.args.b.now c.args.steps work (g.H.Host.now c.args.host.now).left (λ types. Leaves g.H.Host.clock g.H.Host.stopped c.args.host.now c.begin.new.host (IsSessionPoint work (session_of types c.args.b.now c.args.steps work (g.H.Host.now c.args.host.now).left) (g.H.Host.now c.args.host.now).said))
opening_stops g c told quiet work start =
    by_all c.args.b.now c.args.steps work (g.H.Host.now c.args.host.now).left (λ types. Leaves g.H.Host.clock g.H.Host.stopped c.args.host.now c.begin.new.host (IsSessionPoint work (session_of types c.args.b.now c.args.steps work (g.H.Host.now c.args.host.now).left) (g.H.Host.now c.args.host.now).said)) (λ types.
    opening_points g.H.Host.clock g.H.Host.stopped c.args.host.now c.begin.new.host work (session_of types c.args.b.now c.args.steps work (g.H.Host.now c.args.host.now).left) (g.H.Host.now c.args.host.now).said
    (c.begin.ensures.stops told quiet work.kept start.kept))

opening_leaves : (g : Over) (c : After-begin g) → g.H.Host.tells_image → BeginsQuiet g.H.Host.clock g.H.Host.stopped c.args.host.now (g.H.Host.now c.args.host.now).image → (work : Work) → IsStart (g.H.Host.now c.args.host.now).image work
    → (i s : List ℕ) → g.H.Host.stopped c.begin.new.host (g.H.Host.clock c.begin.new.host) i s → OpensTo i work
opening_leaves g c told quiet work start =
    opening_now g.H.Host.clock g.H.Host.stopped c.args.host.now c.begin.new.host (g.H.Host.now c.args.host.now).image (g.H.Host.now c.args.host.now).said work g.met.H.Host.since quiet start (c.begin.ensures.stops told quiet work.kept start.kept)

-- and nothing is asked for
opening_asks : (g : Over) (c : After-begin g) (work : Work)
    → WithTold c.args.b.now c.args.steps work (g.H.Host.now c.args.host.now).left (λ types. Asked (AsksSettled types c.args.b.now c.args.steps work (g.H.Host.now c.args.host.now).left (length (g.H.Host.now c.args.host.now).said)) (g.H.Host.now c.args.host.now).asked (g.H.Host.now c.begin.new.host).asked)
opening_asks g c work =
    let old = g.H.Host.now c.args.host.now in
    let new = g.H.Host.now c.begin.new.host in
    by_all c.args.b.now c.args.steps work old.left (λ types. Asked (AsksSettled types c.args.b.now c.args.steps work old.left (length old.said)) old.asked new.asked) (λ types.
    subst (λ (a : List (ℕ × ℕ)). Asked (AsksSettled types c.args.b.now c.args.steps work old.left (length old.said)) old.asked a) (sym c.begin.ensures.rest.asked) (none_asked _ _))

-- what is so of the session is so of the run
of_run : (g : Over) (c : After-serve_all g) (P : Bounds → Work → List ℕ → List ℕ → Type 0) → g.H.Host.tells_image → (work : Work) → IsStart (g.H.Host.now c.args.host.now).image work
    → P c.in-Ok.store.bounds (work_of c.in-Ok.store) (g.H.Host.now c.begin.new.host).left (g.H.Host.now c.begin.new.host).said → P c.args.b.now work (g.H.Host.now c.args.host.now).left (g.H.Host.now c.args.host.now).said
of_run g c P told work start =
    let old = g.H.Host.now c.args.host.now in
    let mid = g.H.Host.now c.begin.new.host in
    let store = work_of c.in-Ok.store in
    let same : store ≡ work = one_start c.images_open_to_one.ensures.one old.image store work (starts old.image mid.image store (c.in-Ok.ensures.opened told) (c.in-Ok.ensures.image told) (c.in-Ok.ensures.holds told)) start in
    same_run P c.args.b.now c.in-Ok.store.bounds work store old.left mid.left old.said mid.said c.in-Ok.ensures.bounds same c.begin.ensures.rest.left c.begin.ensures.rest.said

session_stops : (g : Over) (c : After-serve_all g) → g.H.Host.tells_image → g.H.Host.tells_said → g.H.Host.tells_input → BeginsQuiet g.H.Host.clock g.H.Host.stopped c.args.host.now (g.H.Host.now c.args.host.now).image
    → (work : Work) → IsStart (g.H.Host.now c.args.host.now).image work
    → WithTold c.args.b.now c.args.steps work (g.H.Host.now c.args.host.now).left (λ types. Leaves g.H.Host.clock g.H.Host.stopped c.args.host.now c.serve_all.new.host (IsSessionPoint work (session_of types c.args.b.now c.args.steps work (g.H.Host.now c.args.host.now).left) (g.H.Host.now c.args.host.now).said))
session_stops g c told told_said told_input quiet work start =
    with_weaker c.args.b.now c.args.steps work (g.H.Host.now c.args.host.now).left (λ types. Leaves g.H.Host.clock g.H.Host.stopped c.begin.new.host c.serve_all.new.host (IsSessionPoint work (session_of types c.args.b.now c.args.steps work (g.H.Host.now c.args.host.now).left) (g.H.Host.now c.args.host.now).said))
    (λ types. Leaves g.H.Host.clock g.H.Host.stopped c.args.host.now c.serve_all.new.host (IsSessionPoint work (session_of types c.args.b.now c.args.steps work (g.H.Host.now c.args.host.now).left) (g.H.Host.now c.args.host.now).said))
    (λ types leaves. run_after g.H.Host.clock g.H.Host.stopped c.args.host.now c.begin.new.host c.serve_all.new.host _ _
    (opening_points g.H.Host.clock g.H.Host.stopped c.args.host.now c.begin.new.host work (session_of types c.args.b.now c.args.steps work (g.H.Host.now c.args.host.now).left) (g.H.Host.now c.args.host.now).said
    (c.begin.ensures.stops told quiet work.kept start.kept)) leaves (λ i s p. p))
    (of_run g c (λ b w l t. WithTold b c.args.steps w l (λ types. Leaves g.H.Host.clock g.H.Host.stopped c.begin.new.host c.serve_all.new.host (IsSessionPoint w (session_of types b c.args.steps w l) t))) told work start
    (c.serve_all.ensures.stops told told_said told_input (c.in-Ok.ensures.quiet told quiet)))

asked_in_run : (g : Over) (c : After-serve_all g) → g.H.Host.tells_image → g.H.Host.tells_said → g.H.Host.tells_input → (work : Work) → IsStart (g.H.Host.now c.args.host.now).image work
    → WithTold c.args.b.now c.args.steps work (g.H.Host.now c.args.host.now).left (λ types. Asked (AsksSettled types c.args.b.now c.args.steps work (g.H.Host.now c.args.host.now).left (length (g.H.Host.now c.args.host.now).said)) (g.H.Host.now c.args.host.now).asked (g.H.Host.now c.serve_all.new.host).asked)
asked_in_run g c told told_said told_input work start =
    let old = g.H.Host.now c.args.host.now in
    let new = g.H.Host.now c.serve_all.new.host in
    subst (λ (a : List (ℕ × ℕ)). WithTold c.args.b.now c.args.steps work old.left (λ types. Asked (AsksSettled types c.args.b.now c.args.steps work old.left (length old.said)) a new.asked)) c.begin.ensures.rest.asked
    (of_run g c (λ b w l t. WithTold b c.args.steps w l (λ types. Asked (AsksSettled types b c.args.steps w l (length t)) (g.H.Host.now c.begin.new.host).asked new.asked)) told work start (c.serve_all.ensures.asked told_said told_input))

pub returns-in-Err-StoreFault-clause-stops : goal.returns-in-Err-StoreFault-clause-stops
returns-in-Err-StoreFault-clause-stops g c told told_said told_input quiet work start = opening_stops g (goal.at.returns-in-Err-StoreFault-clause-stops g c).After-begin told quiet work start

pub returns-in-Err-Memory-clause-stops : goal.returns-in-Err-Memory-clause-stops
returns-in-Err-Memory-clause-stops g c told told_said told_input quiet work start = opening_stops g (goal.at.returns-in-Err-Memory-clause-stops g c).After-begin told quiet work start

pub returns-in-Ok-serve_all-clause-stops : goal.returns-in-Ok-serve_all-clause-stops
returns-in-Ok-serve_all-clause-stops g c told told_said told_input quiet work start = session_stops g (goal.at.returns-in-Ok-serve_all-clause-stops g c).After-serve_all told told_said told_input quiet work start

pub returns-clause-stops : goal.returns-clause-stops
returns-clause-stops g c told told_said told_input quiet work start = session_stops g (goal.at.returns-clause-stops g c).After-serve_all told told_said told_input quiet work start

pub returns-in-Ok-serve_all-clause-complete : goal.returns-in-Ok-serve_all-clause-complete
returns-in-Ok-serve_all-clause-complete g c told told_said told_input _ =
    let old = g.H.Host.now c.args.host.now in
    let new = g.H.Host.now c.serve_all.new.host in
    let at = (goal.at.returns-in-Ok-serve_all-clause-complete g c).After-serve_all in
    let store = work_of c.in-Ok.store in
    let start = starts old.image (g.H.Host.now c.begin.new.host).image store (c.in-Ok.ensures.opened told) (c.in-Ok.ensures.image told) (c.in-Ok.ensures.holds told) in
    let left = old.left in
    let said = of_run g at (λ b w l t. WithTold b c.args.steps w l (λ types. new.said ≡ t ++ output (session_of types b c.args.steps w l))) told store start (c.in-Ok-serve_all.ensures.said told_said told_input) in
    let work = of_run g at (λ b w l t. WithTold b c.args.steps w l (λ types. work_of c.serve_all.new.store ≡ last_work w (session_of types b c.args.steps w l))) told store start (c.in-Ok-serve_all.ensures.work told_input) in
    let ended = of_run g at (λ b w l t. WithTold b c.args.steps w l (λ types. HasEnded (session_of types b c.args.steps w l).ending b.input (g.H.Host.now c.begin.new.host) new)) told store start (c.in-Ok-serve_all.ensures.ended told_input) in
    let b = c.args.b.now in
    let steps = c.args.steps in
    record {
      start = store;
      is_start = start;
      whole = with_both b steps store left (λ types. new.said ≡ old.said ++ output (session_of types b steps store left))
          (λ types. Holds new.image (last_work store (session_of types b steps store left)) × HasEnded (session_of types b steps store left).ending b.input old new) (λ types. IsWhole types b steps store old new)
          (λ types was_said both. record { said = was_said; holds = both.0; ended = both.1 }) said
          (with_both b steps store left (λ types. work_of c.serve_all.new.store ≡ last_work store (session_of types b steps store left))
          (λ types. HasEnded (session_of types b steps store left).ending b.input (g.H.Host.now c.begin.new.host) new)
          (λ types. Holds new.image (last_work store (session_of types b steps store left)) × HasEnded (session_of types b steps store left).ending b.input old new)
          (λ types is has. (
            subst (λ w. Holds new.image w) is (c.in-Ok-serve_all.ensures.holds told),
            same_input (session_of types b steps store left).ending b.input old (g.H.Host.now c.begin.new.host) new c.begin.ensures.rest.left has,
          )) work ended);
    }

pub returns-in-Ok-serve_all-clause-counted : goal.returns-in-Ok-serve_all-clause-counted
returns-in-Ok-serve_all-clause-counted g c told told_input _ work start =
    of_run g (goal.at.returns-in-Ok-serve_all-clause-counted g c).After-serve_all (λ b w l t. WithTold b c.args.steps w l (λ types. c.serve_all.new.tally ≡ counted (replies (session_of types b c.args.steps w l)))) told work start (c.in-Ok-serve_all.ensures.counted told_input)

pub returns-in-Err-StoreFault-clause-stands : goal.returns-in-Err-StoreFault-clause-stands
returns-in-Err-StoreFault-clause-stands g c told told_said told_input quiet work start =
    let old = g.H.Host.now c.args.host.now in
    record {
      waiting = search rules;
      between = search rules;
      broken = λ _. by_all c.args.b.now c.args.steps work old.left (λ types. IsBroken OpensTo (works work (session_of types c.args.b.now c.args.steps work old.left)) (replies (session_of types c.args.b.now c.args.steps work old.left)) old.said (g.H.Host.now c.begin.new.host).said (g.H.Host.stopped c.begin.new.host (g.H.Host.clock c.begin.new.host))) (λ types. idle_broken work (session_of types c.args.b.now c.args.steps work old.left) old.said (g.H.Host.now c.begin.new.host).said (g.H.Host.stopped c.begin.new.host (g.H.Host.clock c.begin.new.host)) c.begin.ensures.rest.said
          (opening_leaves g (goal.at.returns-in-Err-StoreFault-clause-stands g c).After-begin told quiet work start));
      cut_short = search rules;
    }

pub returns-in-Err-Memory-clause-stands : goal.returns-in-Err-Memory-clause-stands
returns-in-Err-Memory-clause-stands g c told told_said told_input quiet work start =
    let old = g.H.Host.now c.args.host.now in
    record {
      waiting = search rules;
      between = λ _. by_all c.args.b.now c.args.steps work old.left (λ types. IsBetween OpensTo (works work (session_of types c.args.b.now c.args.steps work old.left)) (replies (session_of types c.args.b.now c.args.steps work old.left)) old.said (g.H.Host.now c.begin.new.host).said (g.H.Host.stopped c.begin.new.host (g.H.Host.clock c.begin.new.host))) (λ types. idle_between work (session_of types c.args.b.now c.args.steps work old.left) old.said (g.H.Host.now c.begin.new.host).said (g.H.Host.stopped c.begin.new.host (g.H.Host.clock c.begin.new.host)) c.begin.ensures.rest.said
          (opening_leaves g (goal.at.returns-in-Err-Memory-clause-stands g c).After-begin told quiet work start));
      broken = search rules;
      cut_short = search rules;
    }

pub returns-in-Err-StoreFault-clause-asked : goal.returns-in-Err-StoreFault-clause-asked
returns-in-Err-StoreFault-clause-asked g c told told_said told_input work start = opening_asks g (goal.at.returns-in-Err-StoreFault-clause-asked g c).After-begin work

pub returns-in-Err-Memory-clause-asked : goal.returns-in-Err-Memory-clause-asked
returns-in-Err-Memory-clause-asked g c told told_said told_input work start = opening_asks g (goal.at.returns-in-Err-Memory-clause-asked g c).After-begin work

pub returns-in-Ok-serve_all-clause-asked : goal.returns-in-Ok-serve_all-clause-asked
returns-in-Ok-serve_all-clause-asked g c told told_said told_input work start = asked_in_run g (goal.at.returns-in-Ok-serve_all-clause-asked g c).After-serve_all told told_said told_input work start

pub returns-clause-asked : goal.returns-clause-asked
returns-clause-asked g c told told_said told_input work start = asked_in_run g (goal.at.returns-clause-asked g c).After-serve_all told told_said told_input work start

pub returns-clause-waits : goal.returns-clause-waits
returns-clause-waits g c told told_input work start ends =
    of_run g (goal.at.returns-clause-waits g c).After-serve_all (λ b w l t. WithTold b c.args.steps w l (λ types. (session_of types b c.args.steps w l).ending ≡ waiting)) told work start
    (c.serve_all.ensures.waits told_input (c.in-Err.is ∙ ap (λ x. Err x) (c.status_of.ensures.too_long ends)))

pub returns-clause-stands : goal.returns-clause-stands
returns-clause-stands g c told told_said told_input quiet work start =
    let at = (goal.at.returns-clause-stands g c).After-serve_all in
    let new = g.H.Host.now c.serve_all.new.host in
    record {
      waiting = λ ends. of_run g at (λ b w l t. WithTold b c.args.steps w l (λ types. IsWaiting types b c.args.steps w l t new (g.H.Host.stopped c.serve_all.new.host (g.H.Host.clock c.serve_all.new.host)))) told work start
          (c.serve_all.ensures.waiting told told_said told_input (c.in-Ok.ensures.quiet told quiet)
          (either_stop c.serve_all.result c.in-Err.stop serve.Input serve.Long (c.status_of.result ≡ INPUT_FAULT) (c.status_of.result ≡ INPUT_TOO_LONG) c.in-Err.is c.status_of.ensures.input_fault c.status_of.ensures.too_long ends));
      between = λ ends. of_run g at (λ b w l t. WithTold b c.args.steps w l (λ types. IsBetween OpensTo (works w (session_of types b c.args.steps w l)) (replies (session_of types b c.args.steps w l)) t new.said (g.H.Host.stopped c.serve_all.new.host (g.H.Host.clock c.serve_all.new.host)))) told work start
          (c.serve_all.ensures.between told told_said told_input (c.in-Ok.ensures.quiet told quiet) (c.in-Err.is ∙ ap (λ x. Err x) (c.status_of.ensures.memory ends)));
      broken = λ ends. of_run g at (λ b w l t. WithTold b c.args.steps w l (λ types. IsBroken OpensTo (works w (session_of types b c.args.steps w l)) (replies (session_of types b c.args.steps w l)) t new.said (g.H.Host.stopped c.serve_all.new.host (g.H.Host.clock c.serve_all.new.host)))) told work start
          (c.serve_all.ensures.broken told told_said told_input (c.in-Ok.ensures.quiet told quiet) (c.in-Err.is ∙ ap (λ x. Err x) (c.status_of.ensures.store_fault ends)));
      cut_short = λ ends. of_run g at (λ b w l t. WithTold b c.args.steps w l (λ types. IsCutShort OpensTo (works w (session_of types b c.args.steps w l)) (replies (session_of types b c.args.steps w l)) t new.said (g.H.Host.stopped c.serve_all.new.host (g.H.Host.clock c.serve_all.new.host)))) told work start
          (c.serve_all.ensures.cut_short told told_said told_input (c.in-Ok.ensures.quiet told quiet) (c.in-Err.is ∙ ap (λ x. Err x) (c.status_of.ensures.sink_fault ends)));
    }

pub returns-in-Ok-serve_all-clause-refused : goal.returns-in-Ok-serve_all-clause-refused
returns-in-Ok-serve_all-clause-refused g c told at wrong = absurd (not_wrong c.images_open_to_one.ensures.one (g.H.Host.now c.args.host.now).image (work_of c.in-Ok.store).kept at (c.in-Ok.ensures.opened told) wrong)

pub returns-in-Ok-serve_all-clause-untouched : goal.returns-in-Ok-serve_all-clause-untouched
returns-in-Ok-serve_all-clause-untouched g c told at wrong = absurd (not_wrong c.images_open_to_one.ensures.one (g.H.Host.now c.args.host.now).image (work_of c.in-Ok.store).kept at (c.in-Ok.ensures.opened told) wrong)

pub returns-in-Ok-serve_all-clause-untouched_stops : goal.returns-in-Ok-serve_all-clause-untouched_stops
returns-in-Ok-serve_all-clause-untouched_stops g c told at wrong = absurd (not_wrong c.images_open_to_one.ensures.one (g.H.Host.now c.args.host.now).image (work_of c.in-Ok.store).kept at (c.in-Ok.ensures.opened told) wrong)

pub returns-clause-refused : goal.returns-clause-refused
returns-clause-refused g c told at wrong = absurd (not_wrong c.images_open_to_one.ensures.one (g.H.Host.now c.args.host.now).image (work_of c.in-Ok.store).kept at (c.in-Ok.ensures.opened told) wrong)

pub returns-clause-untouched : goal.returns-clause-untouched
returns-clause-untouched g c told at wrong = absurd (not_wrong c.images_open_to_one.ensures.one (g.H.Host.now c.args.host.now).image (work_of c.in-Ok.store).kept at (c.in-Ok.ensures.opened told) wrong)

pub returns-clause-untouched_stops : goal.returns-clause-untouched_stops
returns-clause-untouched_stops g c told at wrong = absurd (not_wrong c.images_open_to_one.ensures.one (g.H.Host.now c.args.host.now).image (work_of c.in-Ok.store).kept at (c.in-Ok.ensures.opened told) wrong)
