use Rattle.std.proofs.Common.{rules, ◌≡◌, ◌+◌, suc, List, ℕ, Bool, true, false, Some, refl, sym, ap, subst, arith, inl, inr}
use Rattle.std.specs.Prelude.{◌⊎◌, Option, None, not, Result, Ok, IsErrOf}
use Rattle.std.proofs.lemmas.Bool.{false_from_ne_true}
use Rattle.abc_outside.specs.Stop.{Leaves, IsQuiet, Extends}
use Rattle.abc_make.specs.Summary.{counted_from}
use Rattle.abc_turns.specs.Session.{whole_item, replies}
use Rattle.abc_reader.specs.Asking.{Asked, AskedRising, next_ask}
use Rattle.abc_reader.specs.Items.{next_item}
use Rattle.abc_reader.specs.Reading.{TookItem}
use Rattle.abc_reader.proofs.Asks.{rising_then}
use Rattle.abc_store.specs.View.{work_of}
use Rattle.abc_outcome.specs.Checks.{IsTypeLineOf}
use Rattle.abc_outcome.specs.Answers.{NothingDone}
use Rattle.abc_session.specs.Session.{Told}
use Rattle.abc_session.specs.declared.serve.Served.{Served}
use Rattle.abc_session.specs.declared.serve.ServeStop.{ServeStop}
use Rattle.abc_session.proofs.Told.{none_told, line_of, one_told}
use Rattle.abc_session.specs.Serving.{OpensTo, IsSessionPoint}
use Rattle.abc_session.specs.Place.{Place, place_at, input_ends, lines_left, session_at, AreToldAt, AreThere, WithNext, by_any, by_line, WantsInput, AsksInput}
use Rattle.abc_session.specs.declared.serve.ServeStop.TheVariants as item
use Rattle.abc_session.specs.declared.session.Course.{Course}
use Rattle.abc_session.specs.declared.session.Course.TheVariants.{GoesOn, Ends}
use Rattle.abc_session.proofs.Turns.{reading_stops, item_stops, item_broken, item_cut}
use Rattle.abc_session.proofs.Places.{first_item, none_next, past_item, past_quit, past_end, none_left, counts_on, counts_last, wants_item, wants_line, asks_item, asks_inside}
use Rattle.abc_session.proofs.Broken.{quiet_opens}
use Rattle.abc_session.proofs.session.turn.Given.{Over}
use Rattle.abc_session.proofs.session.turn.Goals.{After-next_item, After-serve_item}
use Rattle.abc_session.proofs.session.turn.Goals as goal

abbrev here : (g : Over) → After-next_item g → Place
here g c = place_at c.args.served.now (work_of c.args.store.now) c.args.reader.now (g.H.Host.now c.args.host.now)

-- while the item is read nothing changes
reading : (g : Over) (c : After-next_item g) (types : Told) → g.H.Host.tells_image → IsQuiet g.H.Host.clock g.H.Host.stopped c.args.host.now (g.H.Host.now c.args.host.now).image
    → Leaves g.H.Host.clock g.H.Host.stopped c.args.host.now c.next_item.new.host
    (IsSessionPoint (work_of c.args.store.now) (session_at types c.args.store.now.bounds c.args.steps (here g c)) (g.H.Host.now c.args.host.now).said)
reading g c types told quiet =
    reading_stops g.H.Host.clock g.H.Host.stopped c.args.host.now c.next_item.new.host (work_of c.args.store.now) (g.H.Host.now c.args.host.now).image (g.H.Host.now c.args.host.now).said
    (c.requires.holds told) quiet (g.met.H.Host.says_now c.args.host.now) (session_at types c.args.store.now.bounds c.args.steps (here g c)) c.next_item.ensures.reads_on.stops

quiet_still : (g : Over) (c : After-next_item g) → IsQuiet g.H.Host.clock g.H.Host.stopped c.args.host.now (g.H.Host.now c.args.host.now).image → IsQuiet g.H.Host.clock g.H.Host.stopped c.next_item.new.host (g.H.Host.now c.next_item.new.host).image
quiet_still g c quiet i s stop = subst (λ m. Extends m i) (sym c.next_item.ensures.reads_on.rest.image) (quiet i s (c.next_item.ensures.reads_on.now i s stop))

still_opens : (g : Over) (c : After-next_item g) → g.H.Host.tells_image → IsQuiet g.H.Host.clock g.H.Host.stopped c.args.host.now (g.H.Host.now c.args.host.now).image
    → (i s : List ℕ) → g.H.Host.stopped c.next_item.new.host (g.H.Host.clock c.next_item.new.host) i s → OpensTo i (work_of c.args.store.now)
still_opens g c told quiet i s stop =
    quiet_opens g.H.Host.clock g.H.Host.stopped c.args.host.now (g.H.Host.now c.args.host.now).image (work_of c.args.store.now) (c.requires.holds told) quiet i s (c.next_item.ensures.reads_on.now i s stop)

asks_reading : (g : Over) (c : After-next_item g) (types : Told) → g.H.Host.tells_said → g.H.Host.tells_input
    → Asked (AsksInput types c.args.store.now.bounds c.args.steps (here g c)) (g.H.Host.now c.args.host.now).asked (g.H.Host.now c.next_item.new.host).asked
asks_reading g c types told_said told =
    asks_item types c.args.store.now.bounds c.args.steps (here g c) (g.H.Host.now c.args.host.now).asked (g.H.Host.now c.next_item.new.host).asked (c.next_item.ensures.asked told_said told)

-- where the item was read, where it is served, and where that led
abbrev old : (g : Over) → After-serve_item g → Place
old g c = place_at c.args.served.now (work_of c.args.store.now) c.args.reader.now (g.H.Host.now c.args.host.now)

abbrev mid : (g : Over) → After-serve_item g → Place
mid g c = place_at (c.args.served.now + 1) (work_of c.args.store.now) c.next_item.new.self (g.H.Host.now c.next_item.new.host)

abbrev new : (g : Over) → After-serve_item g → Place
new g c = place_at (c.args.served.now + 1) (work_of c.serve_item.new.store) c.serve_item.new.reader (g.H.Host.now c.serve_item.new.host)

next_number : (n : ℕ) → n + 1 ≡ suc n
next_number n = omega arith

taken : (g : Over) (c : After-serve_item g) → g.H.Host.tells_input → TookItem (old g c).reading (old g c).left (mid g c).reading (mid g c).left (Some c.in-Some.item)
taken g c told = (rw c.in-Some.is at c.in_ok-item.ensures.item) told

first_of : (g : Over) (c : After-serve_item g) → g.H.Host.tells_input → next_item (input_ends (old g c)) (lines_left (old g c)) ≡ whole_item c.in-Some.item (lines_left (mid g c))
first_of g c told = first_item (old g c).reading (mid g c).reading (old g c).left (mid g c).left c.in-Some.item (taken g c told)

-- the line that is told of the item
line_here : (g : Over) (c : After-serve_item g) (types : Told) → g.H.Host.tells_input → AreToldAt types c.args.store.now.bounds c.args.steps (old g c) 1 → IsTypeLineOf c.args.store.now.kept c.in-Some.item (types (c.args.served.now + 1))
line_here g c types told are =
    subst (λ n. IsTypeLineOf c.args.store.now.kept c.in-Some.item (types n)) (sym (next_number c.args.served.now))
    (line_of types c.args.store.now.bounds c.args.steps (old g c) c.in-Some.item (lines_left (mid g c)) (first_of g c told) are)

abbrev HasLine : (g : Over) → After-serve_item g → Type 0
HasLine g c = (line : Option ℕ) × IsTypeLineOf c.args.store.now.kept c.in-Some.item line

line_there : (g : Over) (c : After-serve_item g) → g.H.Host.tells_input → HasLine g c → AreThere c.args.store.now.bounds c.args.steps (old g c) 1
line_there g c told has = record {
  types = λ _. has.0;
  are_told = one_told (λ _. has.0) c.args.store.now.bounds c.args.steps (old g c) c.in-Some.item (lines_left (mid g c)) (first_of g c told) has.1;
}

-- an item that was answered has a type line, and one that was not has one too, but for want of memory
answered_line : (P N : Type 0) (done : Served) → P ⊎ (IsErrOf {T = Served} (Ok done) item.Memory × N) → P
answered_line P N done (inl has) = has
answered_line P N done (inr none) = let starved = none.0 in absurd (cc starved)

failed_line : (P N : Type 0) (r : Result Served ServeStop) → (IsErrOf r item.Memory → ⊥) → P ⊎ (IsErrOf r item.Memory × N) → P
failed_line P N r fed (inl has) = has
failed_line P N r fed (inr none) = absurd (fed none.0)

not_starved : (r : Result Served ServeStop) → IsErrOf r item.Input ⊎ IsErrOf r item.Long → IsErrOf r item.Memory → ⊥
not_starved r (inl is) starved = absurd (cc (is, starved))
not_starved r (inr is) starved = absurd (cc (is, starved))

-- by the line of an item that was not answered; or nothing was done
by_told : (g : Over) (c : After-serve_item g) → g.H.Host.tells_input → (X : Told → Type 0) → ((types : Told) → IsTypeLineOf c.args.store.now.kept c.in-Some.item (types (c.args.served.now + 1)) → X types)
    → (c.serve_item.new.host ≡ c.next_item.new.host → (types : Told) → X types) → WithNext c.args.store.now.bounds c.args.steps (old g c) X
by_told g c told X by idle = by_sum c.serve_item.ensures.told
  where
    by_sum : HasLine g c ⊎ (IsErrOf c.serve_item.result item.Memory × NothingDone c.args.store.now c.serve_item.new.store c.next_item.new.self c.serve_item.new.reader c.next_item.new.host c.serve_item.new.host)
        → WithNext c.args.store.now.bounds c.args.steps (old g c) X
    by_sum (inl has) = by_line (line_there g c told has) (λ types are. by types (line_here g c types told are))
    by_sum (inr none) = by_any (idle none.1.host)

serving : (g : Over) (c : After-serve_item g) (types : Told) → IsTypeLineOf c.args.store.now.kept c.in-Some.item (types (c.args.served.now + 1)) → g.H.Host.tells_image → g.H.Host.tells_said → g.H.Host.tells_input
    → Leaves g.H.Host.clock g.H.Host.stopped c.args.host.now c.next_item.new.host (IsSessionPoint (old g c).work (session_at types c.args.store.now.bounds c.args.steps (old g c)) (old g c).said)
    → IsQuiet g.H.Host.clock g.H.Host.stopped c.next_item.new.host (g.H.Host.now c.next_item.new.host).image
    → Leaves g.H.Host.clock g.H.Host.stopped c.args.host.now c.serve_item.new.host (IsSessionPoint (old g c).work (session_at types c.args.store.now.bounds c.args.steps (old g c)) (old g c).said)
serving g c types line told told_said told_input read quiet =
    item_stops types c.args.store.now.bounds c.args.steps (old g c) (mid g c) c.in-Some.item (first_of g c told_input) (taken g c told_input).were_read.ends (next_number c.args.served.now) refl c.next_item.ensures.reads_on.rest.said
    g.H.Host.clock g.H.Host.stopped c.next_item.new.host c.serve_item.new.host c.args.host.now read (c.serve_item.ensures.stops (types (c.args.served.now + 1)) line told told_said told_input quiet)

asks_serving : (g : Over) (c : After-serve_item g) (types : Told) → IsTypeLineOf c.args.store.now.kept c.in-Some.item (types (c.args.served.now + 1)) → Asked (AsksInput types c.args.store.now.bounds c.args.steps (old g c)) (g.H.Host.now c.args.host.now).asked (g.H.Host.now c.next_item.new.host).asked → g.H.Host.tells_said → g.H.Host.tells_input
    → Asked (AsksInput types c.args.store.now.bounds c.args.steps (old g c)) (g.H.Host.now c.args.host.now).asked (g.H.Host.now c.serve_item.new.host).asked
asks_serving g c types line so_far told_said told =
    asks_inside types c.args.store.now.bounds c.args.steps (old g c) (mid g c) c.in-Some.item (taken g c told) (next_number c.args.served.now) refl c.next_item.ensures.reads_on.rises (c.next_item.ensures.reads_on.total told)
    (g.H.Host.now c.args.host.now).asked (g.H.Host.now c.next_item.new.host).asked (g.H.Host.now c.serve_item.new.host).asked c.next_item.ensures.reads_on.rest.said
    so_far c.serve_item.ensures.reads.ended_asks (c.serve_item.ensures.asked (types (c.args.served.now + 1)) line told_said told)

rises_serving : (g : Over) (c : After-serve_item g) → g.H.Host.tells_said
    → AskedRising (next_ask (old g c).reading.taken (old g c).reading.ended) (next_ask (new g c).reading.taken (new g c).reading.ended) (g.H.Host.now c.args.host.now).asked (g.H.Host.now c.serve_item.new.host).asked
rises_serving g c told =
    rising_then (next_ask (old g c).reading.taken (old g c).reading.ended) (next_ask (mid g c).reading.taken (mid g c).reading.ended) (next_ask (new g c).reading.taken (new g c).reading.ended)
    (g.H.Host.now c.args.host.now).asked (g.H.Host.now c.next_item.new.host).asked (g.H.Host.now c.serve_item.new.host).asked (c.next_item.ensures.reads_on.asks_rise told) (c.serve_item.ensures.reads.asks_rise told)

pub returns-in_default-clause-stops : goal.returns-in_default-clause-stops
returns-in_default-clause-stops g c told told_said told_input quiet = by_any (λ types. reading g (goal.at.returns-in_default-clause-stops g c).After-next_item types told quiet)

pub returns-in_err-item-clause-stops : goal.returns-in_err-item-clause-stops
returns-in_err-item-clause-stops g c told told_said told_input quiet = by_any (λ types. reading g (goal.at.returns-in_err-item-clause-stops g c).After-next_item types told quiet)

pub returns-clause-stops : goal.returns-clause-stops
returns-clause-stops g c told told_said told_input quiet =
    let at = goal.at.returns-clause-stops g c in
    by_line (line_there g at.After-serve_item told_input (answered_line _ _ c.in_ok-done.done c.in_ok-done.ensures.told)) (λ types are.
    serving g at.After-serve_item types (line_here g at.After-serve_item types told_input are) told told_said told_input (reading g at.After-next_item types told quiet) (quiet_still g at.After-next_item quiet))

pub returns-in_err-done-clause-stops : goal.returns-in_err-done-clause-stops
returns-in_err-done-clause-stops g c told told_said told_input quiet =
    let at = goal.at.returns-in_err-done-clause-stops g c in
    by_told g at.After-serve_item told_input (λ types. Leaves g.H.Host.clock g.H.Host.stopped c.args.host.now c.serve_item.new.host (IsSessionPoint (old g at.After-serve_item).work (session_at types c.args.store.now.bounds c.args.steps (old g at.After-serve_item)) (old g at.After-serve_item).said))
    (λ types line. serving g at.After-serve_item types line told told_said told_input (reading g at.After-next_item types told quiet) (quiet_still g at.After-next_item quiet))
    (λ same types. subst (λ h. Leaves g.H.Host.clock g.H.Host.stopped c.args.host.now h (IsSessionPoint (old g at.After-serve_item).work (session_at types c.args.store.now.bounds c.args.steps (old g at.After-serve_item)) (old g at.After-serve_item).said))
    (sym same) (reading g at.After-next_item types told quiet))

pub returns-in_default-clause-asked : goal.returns-in_default-clause-asked
returns-in_default-clause-asked g c told_said told = by_any (λ types. asks_reading g (goal.at.returns-in_default-clause-asked g c).After-next_item types told_said told)

pub returns-in_err-item-clause-asked : goal.returns-in_err-item-clause-asked
returns-in_err-item-clause-asked g c told_said told = by_any (λ types. asks_reading g (goal.at.returns-in_err-item-clause-asked g c).After-next_item types told_said told)

pub returns-clause-asked : goal.returns-clause-asked
returns-clause-asked g c told_said told =
    let at = goal.at.returns-clause-asked g c in
    by_line (line_there g at.After-serve_item told (answered_line _ _ c.in_ok-done.done c.in_ok-done.ensures.told)) (λ types are.
    asks_serving g at.After-serve_item types (line_here g at.After-serve_item types told are) (asks_reading g at.After-next_item types told_said told) told_said told)

pub returns-in_err-done-clause-asked : goal.returns-in_err-done-clause-asked
returns-in_err-done-clause-asked g c told_said told =
    let at = goal.at.returns-in_err-done-clause-asked g c in
    by_told g at.After-serve_item told (λ types. Asked (AsksInput types c.args.store.now.bounds c.args.steps (old g at.After-serve_item)) (g.H.Host.now c.args.host.now).asked (g.H.Host.now c.serve_item.new.host).asked)
    (λ types line. asks_serving g at.After-serve_item types line (asks_reading g at.After-next_item types told_said told) told_said told)
    (λ same types. subst (λ h. Asked (AsksInput types c.args.store.now.bounds c.args.steps (old g at.After-serve_item)) (g.H.Host.now c.args.host.now).asked (g.H.Host.now h).asked) (sym same) (asks_reading g at.After-next_item types told_said told))

pub returns-clause-asks_rise : goal.returns-clause-asks_rise
returns-clause-asks_rise g c told = rises_serving g (goal.at.returns-clause-asks_rise g c).After-serve_item told

pub returns-in_err-done-clause-asks_rise : goal.returns-in_err-done-clause-asks_rise
returns-in_err-done-clause-asks_rise g c told = rises_serving g (goal.at.returns-in_err-done-clause-asks_rise g c).After-serve_item told

pub returns-in_default-clause-ends : goal.returns-in_default-clause-ends
returns-in_default-clause-ends g c types are told _ =
    past_end types c.args.store.now.bounds c.args.steps g.H.Host.tells_said (place_at c.args.served.now (work_of c.args.store.now) c.args.reader.now (g.H.Host.now c.args.host.now))
    (place_at c.args.served.now (work_of c.args.store.now) c.next_item.new.self (g.H.Host.now c.next_item.new.host)) ((rw c.in_default.is at c.in_ok-item.ensures.item) told)
    (c.next_item.ensures.stands.at_end told) refl c.next_item.ensures.reads_on.rest.said

abbrev answers : Course → Result Course ServeStop
answers course = Ok course

answered_so : (a b : Course) → answers a ≡ answers b → a ≡ b
answered_so a b is = cc

pub returns-clause-goes_on : goal.returns-clause-goes_on
returns-clause-goes_on g c types are told is =
    let at = (goal.at.returns-clause-goes_on g c).After-serve_item in
    past_item types c.args.store.now.bounds c.args.steps g.H.Host.tells_said (old g at) (mid g at) (new g at) c.in-Some.item (taken g at told) (next_number c.args.served.now) refl c.next_item.ensures.reads_on.rest.said
    c.args.tally.now c.serve_item.new.tally c.in_ok-done.done.quit (c.in_ok-done.ensures.served (types (c.args.served.now + 1)) (line_here g at types told are) told) c.serve_item.ensures.reads.stays_ended refl (c.course_behind.ensures.goes_on (answered_so c.course_behind.result GoesOn is)) (line_of types c.args.store.now.bounds c.args.steps (old g at) c.in-Some.item (lines_left (mid g at)) (first_of g at told) are)

pub returns-clause-ends : goal.returns-clause-ends
returns-clause-ends g c types are told is =
    let at = (goal.at.returns-clause-ends g c).After-serve_item in
    past_quit types c.args.store.now.bounds c.args.steps g.H.Host.tells_said (old g at) (mid g at) (new g at) c.in-Some.item (taken g at told) (next_number c.args.served.now) refl c.next_item.ensures.reads_on.rest.said
    c.args.tally.now c.serve_item.new.tally c.in_ok-done.done.quit (c.in_ok-done.ensures.served (types (c.args.served.now + 1)) (line_here g at types told are) told) c.serve_item.ensures.reads.stays_ended (c.course_behind.ensures.ends (answered_so c.course_behind.result Ends is))

pub returns-in_default-clause-tallied_whole : goal.returns-in_default-clause-tallied_whole
returns-in_default-clause-tallied_whole g c types are told _ =
    ap (λ s. counted_from c.args.tally.now (replies s))
    (none_left types c.args.store.now.bounds c.args.steps (place_at c.args.served.now (work_of c.args.store.now) c.args.reader.now (g.H.Host.now c.args.host.now))
    (place_at c.args.served.now (work_of c.args.store.now) c.next_item.new.self (g.H.Host.now c.next_item.new.host)) ((rw c.in_default.is at c.in_ok-item.ensures.item) told))

pub returns-clause-tallied : goal.returns-clause-tallied
returns-clause-tallied g c types are told is =
    let at = (goal.at.returns-clause-tallied g c).After-serve_item in
    counts_on types c.args.store.now.bounds c.args.steps g.H.Host.tells_said (old g at) (mid g at) (new g at) c.in-Some.item (taken g at told) (next_number c.args.served.now) refl c.next_item.ensures.reads_on.rest.said
    c.args.tally.now c.serve_item.new.tally c.in_ok-done.done.quit (c.in_ok-done.ensures.served (types (c.args.served.now + 1)) (line_here g at types told are) told) c.serve_item.ensures.reads.stays_ended refl (c.course_behind.ensures.goes_on (answered_so c.course_behind.result GoesOn is))

pub returns-clause-tallied_whole : goal.returns-clause-tallied_whole
returns-clause-tallied_whole g c types are told is =
    let at = (goal.at.returns-clause-tallied_whole g c).After-serve_item in
    counts_last types c.args.store.now.bounds c.args.steps g.H.Host.tells_said (old g at) (mid g at) (new g at) c.in-Some.item (taken g at told) (next_number c.args.served.now) refl c.next_item.ensures.reads_on.rest.said
    c.args.tally.now c.serve_item.new.tally c.in_ok-done.done.quit (c.in_ok-done.ensures.served (types (c.args.served.now + 1)) (line_here g at types told are) told) c.serve_item.ensures.reads.stays_ended (c.course_behind.ensures.ends (answered_so c.course_behind.result Ends is))

pub returns-in_err-item-clause-wants : goal.returns-in_err-item-clause-wants
returns-in_err-item-clause-wants g c told stops =
    by_any (λ types. wants_item types c.args.store.now.bounds c.args.steps (here g (goal.at.returns-in_err-item-clause-wants g c).After-next_item) (g.H.Host.now c.next_item.new.host).taken (search rules))

pub returns-in_err-done-clause-wants : goal.returns-in_err-done-clause-wants
returns-in_err-done-clause-wants g c told stops =
    let at = (goal.at.returns-in_err-done-clause-wants g c).After-serve_item in
    let reads : IsErrOf c.serve_item.result item.Input ⊎ IsErrOf c.serve_item.result item.Long = search rules in
    let going = false_from_ne_true c.next_item.new.self.ended (λ is. c.serve_item.ensures.ended_ends is reads) in
    by_line (line_there g at told (failed_line _ _ _ (not_starved c.serve_item.result reads) c.serve_item.ensures.told)) (λ types are.
    subst (λ n. WantsInput types c.args.store.now.bounds c.args.steps (old g at) n) (sym c.serve_item.ensures.reads.stands.counts)
    (wants_line types c.args.store.now.bounds c.args.steps (old g at) (mid g at) c.in-Some.item (taken g at told) (next_number c.args.served.now) refl c.next_item.ensures.reads_on.rises (c.next_item.ensures.reads_on.total told)
    going c.serve_item.new.reader.taken (c.serve_item.ensures.wants (types (c.args.served.now + 1)) (line_here g at types told are) told reads)))

pub returns-in_err-done-clause-ended_ends : goal.returns-in_err-done-clause-ended_ends
returns-in_err-done-clause-ended_ends g c is stops =
    c.serve_item.ensures.ended_ends (c.next_item.ensures.reads_on.stays_ended is) (search rules)

pub returns-in_err-item-clause-idle : goal.returns-in_err-item-clause-idle
returns-in_err-item-clause-idle g c told quiet _ = still_opens g (goal.at.returns-in_err-item-clause-idle g c).After-next_item told quiet

pub returns-in_err-done-clause-idle : goal.returns-in_err-done-clause-idle
returns-in_err-done-clause-idle g c told quiet stops i s stop =
    still_opens g (goal.at.returns-in_err-done-clause-idle g c).After-next_item told quiet i s (c.serve_item.ensures.idle (search rules) i s stop)

pub returns-in_err-done-clause-broken : goal.returns-in_err-done-clause-broken
returns-in_err-done-clause-broken g c told told_said told_input quiet stops =
    let at = goal.at.returns-in_err-done-clause-broken g c in
    let fault : IsErrOf c.serve_item.result item.StoreFault = search rules in
    by_line (line_there g at.After-serve_item told_input (failed_line _ _ _ (λ starved. absurd (cc (fault, starved))) c.serve_item.ensures.told)) (λ types are.
    item_broken types c.args.store.now.bounds c.args.steps (old g at.After-serve_item) (mid g at.After-serve_item) c.in-Some.item (first_of g at.After-serve_item told_input) (taken g at.After-serve_item told_input).were_read.ends
    (next_number c.args.served.now) refl c.next_item.ensures.reads_on.rest.said g.H.Host.clock g.H.Host.stopped c.next_item.new.host c.serve_item.new.host g.met.H.Host.since
    (still_opens g at.After-next_item told quiet) (c.serve_item.ensures.stops (types (c.args.served.now + 1)) (line_here g at.After-serve_item types told_input are) told told_said told_input (quiet_still g at.After-next_item quiet))
    (g.H.Host.now c.serve_item.new.host).said (c.serve_item.ensures.unsaid (inr (inr (inl fault)))))

pub returns-in_err-done-clause-cut_short : goal.returns-in_err-done-clause-cut_short
returns-in_err-done-clause-cut_short g c told told_said told_input quiet stops =
    let at = goal.at.returns-in_err-done-clause-cut_short g c in
    let sink : IsErrOf c.serve_item.result item.SinkFault = search rules in
    by_line (line_there g at.After-serve_item told_input (failed_line _ _ _ (λ starved. absurd (cc (sink, starved))) c.serve_item.ensures.told)) (λ types are.
    item_cut types c.args.store.now.bounds c.args.steps (old g at.After-serve_item) (mid g at.After-serve_item) c.in-Some.item (first_of g at.After-serve_item told_input) (taken g at.After-serve_item told_input).were_read.ends
    (next_number c.args.served.now) refl c.next_item.ensures.reads_on.rest.said (new g at.After-serve_item) (g.H.Host.stopped c.serve_item.new.host (g.H.Host.clock c.serve_item.new.host))
    (c.serve_item.ensures.cut (types (c.args.served.now + 1)) (line_here g at.After-serve_item types told_input are) told_said told_input sink)
    (quiet_opens g.H.Host.clock g.H.Host.stopped c.serve_item.new.host (g.H.Host.now c.serve_item.new.host).image (work_of c.serve_item.new.store) (c.serve_item.ensures.holds told (λ fails. absurd (cc (sink, fails))))
    (c.serve_item.ensures.quiet told (quiet_still g at.After-next_item quiet) (λ fails. absurd (cc (sink, fails))))))

pub returns-in_default-clause-there : goal.returns-in_default-clause-there
returns-in_default-clause-there g c told = record {
  types = λ _. None;
  are_told = none_told (λ _. None) c.args.store.now.bounds c.args.steps (here g (goal.at.returns-in_default-clause-there g c).After-next_item)
      (none_next c.args.reader.now c.next_item.new.self (g.H.Host.now c.args.host.now).left (g.H.Host.now c.next_item.new.host).left ((rw c.in_default.is at c.in_ok-item.ensures.item) told));
}

pub returns-clause-there : goal.returns-clause-there
returns-clause-there g c told = line_there g (goal.at.returns-clause-there g c).After-serve_item told (answered_line _ _ c.in_ok-done.done c.in_ok-done.ensures.told)
