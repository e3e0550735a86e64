use Rattle.std.proofs.Common.{rules, ◌≡◌, ◌∙◌, suc, ◌+◌, length, refl, sym, ap, subst, arith}
use Rattle.std.specs.Prelude.{Ok}
use Rattle.std.proofs.lemmas.Bool.{false_from_ne_true}
use Rattle.abc_journal.specs.declared.layout.Bounds.{Bounds}
use Rattle.abc_outside.specs.Stop.{Leaves, IsQuiet}
use Rattle.abc_turns.specs.Session.{Session, replies, works}
use Rattle.abc_turns.specs.Stops.{HasServed, IsBetween, IsBroken, IsCutShort}
use Rattle.abc_turns.proofs.Endings.{between_later, broken_later, cut_later}
use Rattle.abc_reader.specs.Asking.{Asked, AskedRising, next_ask}
use Rattle.abc_make.specs.Summary.{Count}
use Rattle.abc_store.specs.Commit.{Work}
use Rattle.abc_store.specs.View.{work_of}
use Rattle.abc_session.specs.declared.session.Course.TheVariants.{Ends}
use Rattle.abc_session.specs.Session.{Told, session_of}
use Rattle.abc_session.specs.Told.{WithTold}
use Rattle.abc_session.specs.Serving.{OpensTo, IsSessionPoint}
use Rattle.abc_session.specs.Settled.{AsksSettled}
use Rattle.abc_session.specs.Place.{Place, start_place, place_at, session_at, counted_at, AreToldAt, AreThere, WithNext, by_any, by_line, WentOn, Ended, WantsInput, AsksInput}
use Rattle.abc_reader.specs.Reading.{fresh}
use Rattle.abc_reader.proofs.Asks.{none_asked, rising_then, rising_ends}
use Rattle.abc_session.proofs.Broken.{told_served, idle_between}
use Rattle.abc_session.proofs.Places.{begins, starts_counting, went_then, went_on, waits, waits_on, turn_asks, said_all, kept_all, ended_all, next_told, next_there, with_next, by_next}
use Rattle.abc_session.proofs.Told.{none_there}
use Rattle.abc_session.proofs.Turns.{then_stops}
use Rattle.abc_session.proofs.session.serve_all.Given.{Over}
use Rattle.abc_session.proofs.session.serve_all.Goals.{After-turn}
use Rattle.abc_session.proofs.session.serve_all.Goals as goal

-- where the loop stands
abbrev here : (g : Over) → After-turn g → Place
here g c = place_at c.items.served (work_of c.items.store) c.items.reader (g.H.Host.now c.items.host)

abbrev limit : (g : Over) → After-turn g → Bounds
limit g c = c.args.store.now.bounds

abbrev whole : (g : Over) (c : After-turn g) (types : Told) → Session Work
whole g c types = session_of types (limit g c) c.args.steps (work_of c.args.store.now) (g.H.Host.now c.args.host.now).left

-- what the clauses of the turn say of the bounds of its store is so of the bounds at the start
of_bounds : (g : Over) (c : After-turn g) (P : Bounds → Type 0) → P c.items.store.bounds → P (limit g c)
of_bounds g c P p = subst (λ (b : Bounds). P b) c.items.invariant.bounds p

-- where the session starts
abbrev begin : (g : Over) → After-turn g → Place
begin g c = start_place (work_of c.args.store.now) (limit g c).input (g.H.Host.now c.args.host.now)

-- the type lines of the items up to here are told
abbrev ToldHere : (g : Over) → After-turn g → Told → Type 0
ToldHere g c types = AreToldAt types (limit g c) c.args.steps (begin g c) c.items.served

-- what the turn leaves and asks, by its type line
abbrev TurnStops : (g : Over) → After-turn g → Told → Type 0
TurnStops g c types = Leaves g.H.Host.clock g.H.Host.stopped c.items.host c.turn.new.host (IsSessionPoint (work_of c.items.store) (session_at types (limit g c) c.args.steps (here g c)) (g.H.Host.now c.items.host).said)

abbrev TurnAsks : (g : Over) → After-turn g → Told → Type 0
TurnAsks g c types = Asked (AsksInput types (limit g c) c.args.steps (here g c)) (g.H.Host.now c.items.host).asked (g.H.Host.now c.turn.new.host).asked

turn_stops : (g : Over) (c : After-turn g) → g.H.Host.tells_image → g.H.Host.tells_said → g.H.Host.tells_input → IsQuiet g.H.Host.clock g.H.Host.stopped c.args.host.now (g.H.Host.now c.args.host.now).image
    → WithNext (limit g c) c.args.steps (here g c) (TurnStops g c)
turn_stops g c told told_said told_input quiet =
    of_bounds g c (λ b. WithNext b c.args.steps (here g c) (λ types. Leaves g.H.Host.clock g.H.Host.stopped c.items.host c.turn.new.host (IsSessionPoint (work_of c.items.store) (session_at types b c.args.steps (here g c)) (g.H.Host.now c.items.host).said)))
    (c.turn.ensures.stops told told_said told_input (c.items.invariant.quiet told quiet))

turn_asked : (g : Over) (c : After-turn g) → g.H.Host.tells_said → g.H.Host.tells_input → WithNext (limit g c) c.args.steps (here g c) (TurnAsks g c)
turn_asked g c told_said told =
    of_bounds g c (λ b. WithNext b c.args.steps (here g c) (λ types. Asked (AsksInput types b c.args.steps (here g c)) (g.H.Host.now c.items.host).asked (g.H.Host.now c.turn.new.host).asked)) (c.turn.ensures.asked told_said told)

-- what is so by the type line of the turn is so by those of the session
of_turn : (g : Over) (c : After-turn g) → g.H.Host.tells_input → (X Y : Told → Type 0) → ((types : Told) → ToldHere g c types → X types → Y types) → WithNext (limit g c) c.args.steps (here g c) X
    → WithTold (limit g c) c.args.steps (work_of c.args.store.now) (g.H.Host.now c.args.host.now).left Y
of_turn g c told X Y so next =
    with_next (limit g c) c.args.steps (work_of c.args.store.now) (g.H.Host.now c.args.host.now) g.H.Host.tells_said (here g c) (λ types are. c.items.invariant.went types are told)
    X Y (c.items.invariant.there told) so next

-- the type lines up to the end of a turn are those up to it, and that of its item
up_to_turn : (g : Over) (c : After-turn g) → g.H.Host.tells_input → c.turn.new.served ≡ c.items.served + 1 → (types : Told) → AreToldAt types (limit g c) c.args.steps (begin g c) c.turn.new.served
    → ToldHere g c types × AreToldAt types (limit g c) c.args.steps (here g c) 1
up_to_turn g c told count types are =
    next_told (limit g c) c.args.steps (work_of c.args.store.now) (g.H.Host.now c.args.host.now) g.H.Host.tells_said (here g c) (λ types before. c.items.invariant.went types before told) types c.turn.new.served count are

-- by the bounds of the store that the turn had
told_turn : (g : Over) (c : After-turn g) (types : Told) → AreToldAt types (limit g c) c.args.steps (here g c) 1 → AreToldAt types c.items.store.bounds c.args.steps (here g c) 1
told_turn g c types are = subst (λ (b : Bounds). AreToldAt types b c.args.steps (here g c) 1) (sym c.items.invariant.bounds) are

there_turn : (g : Over) (c : After-turn g) → AreThere c.items.store.bounds c.args.steps (here g c) 1 → AreThere (limit g c) c.args.steps (here g c) 1
there_turn g c there = of_bounds g c (λ b. AreThere b c.args.steps (here g c) 1) there

-- the items so far were served, and those from here on are left
served_on : (g : Over) (c : After-turn g) (types : Told) → ToldHere g c types → g.H.Host.tells_input
    → HasServed (works (work_of c.args.store.now) (whole g c types)) (replies (whole g c types)) (works (work_of c.items.store) (session_at types (limit g c) c.args.steps (here g c))) (replies (session_at types (limit g c) c.args.steps (here g c)))
    g.H.Host.tells_said (g.H.Host.now c.args.host.now).said (g.H.Host.now c.items.host).said
served_on g c types are told = went_on types (limit g c) c.args.steps (work_of c.args.store.now) (g.H.Host.now c.args.host.now) g.H.Host.tells_said (here g c) ((c.items.invariant.went types are) told)

-- a turn more
stops_on : (g : Over) (c : After-turn g) (types : Told) → ToldHere g c types → g.H.Host.tells_image → g.H.Host.tells_said → g.H.Host.tells_input → IsQuiet g.H.Host.clock g.H.Host.stopped c.args.host.now (g.H.Host.now c.args.host.now).image
    → TurnStops g c types
    → Leaves g.H.Host.clock g.H.Host.stopped c.args.host.now c.turn.new.host (IsSessionPoint (work_of c.args.store.now) (whole g c types) (g.H.Host.now c.args.host.now).said)
stops_on g c types are told told_said told_input quiet turn =
    let i = c.items.invariant in
    then_stops g.H.Host.clock g.H.Host.stopped c.args.host.now c.items.host c.turn.new.host (work_of c.args.store.now) (work_of c.items.store) (whole g c types) (session_at types (limit g c) c.args.steps (here g c)) g.H.Host.tells_said
    (g.H.Host.now c.args.host.now).said (g.H.Host.now c.items.host).said (served_on g c types are told_input) told_said ((i.stops types are) told told_said told_input quiet) turn

asks_on : (g : Over) (c : After-turn g) (types : Told) → ToldHere g c types → g.H.Host.tells_said → g.H.Host.tells_input → TurnAsks g c types
    → Asked (AsksSettled types (limit g c) c.args.steps (work_of c.args.store.now) (g.H.Host.now c.args.host.now).left (length (g.H.Host.now c.args.host.now).said)) (g.H.Host.now c.args.host.now).asked (g.H.Host.now c.turn.new.host).asked
asks_on g c types are told_said told turn =
    let i = c.items.invariant in
    turn_asks types (limit g c) c.args.steps (work_of c.args.store.now) (g.H.Host.now c.args.host.now) g.H.Host.tells_said (here g c)
    (g.H.Host.now c.args.host.now).asked (g.H.Host.now c.items.host).asked (g.H.Host.now c.turn.new.host).asked told_said ((i.went types are) told) c.turn.ensures.ended_asks turn ((i.asked types are) told_said told)

rises_on : (g : Over) (c : After-turn g) → g.H.Host.tells_said → AskedRising 0 (next_ask c.turn.new.reader.taken c.turn.new.reader.ended) (g.H.Host.now c.args.host.now).asked (g.H.Host.now c.turn.new.host).asked
rises_on g c told =
    rising_then 0 (next_ask c.items.reader.taken c.items.reader.ended) (next_ask c.turn.new.reader.taken c.turn.new.reader.ended) (g.H.Host.now c.args.host.now).asked (g.H.Host.now c.items.host).asked
    (g.H.Host.now c.turn.new.host).asked (c.items.invariant.asks_rise told) (c.turn.ensures.asks_rise told)

rises_to_end : (g : Over) (c : After-turn g) → g.H.Host.tells_said → AskedRising 0 (suc (g.H.Host.now c.turn.new.host).taken) (g.H.Host.now c.args.host.now).asked (g.H.Host.now c.turn.new.host).asked
rises_to_end g c told =
    rising_ends 0 c.turn.new.reader.taken (g.H.Host.now c.turn.new.host).taken c.turn.new.reader.ended (g.H.Host.now c.args.host.now).asked (g.H.Host.now c.turn.new.host).asked c.turn.ensures.counts (rises_on g c told)

-- all that was done up to the end of this turn
went_all : (g : Over) (c : After-turn g) (types : Told) → ToldHere g c types → g.H.Host.tells_input
    → WentOn types c.items.store.bounds c.args.steps g.H.Host.tells_said (here g c) (place_at c.turn.new.served (work_of c.turn.new.store) c.turn.new.reader (g.H.Host.now c.turn.new.host))
    → WentOn types (limit g c) c.args.steps g.H.Host.tells_said (start_place (work_of c.args.store.now) (limit g c).input (g.H.Host.now c.args.host.now)) (place_at c.turn.new.served (work_of c.turn.new.store) c.turn.new.reader (g.H.Host.now c.turn.new.host))
went_all g c types are told goes =
    went_then types (limit g c) c.args.steps g.H.Host.tells_said (start_place (work_of c.args.store.now) (limit g c).input (g.H.Host.now c.args.host.now)) (here g c)
    (place_at c.turn.new.served (work_of c.turn.new.store) c.turn.new.reader (g.H.Host.now c.turn.new.host)) ((c.items.invariant.went types are) told)
    (of_bounds g c (λ b. WentOn types b c.args.steps g.H.Host.tells_said (here g c) (place_at c.turn.new.served (work_of c.turn.new.store) c.turn.new.reader (g.H.Host.now c.turn.new.host))) goes)
    c.turn.ensures.stays_ended

-- what was counted, by the bounds at the start
tallied_on : (g : Over) (c : After-turn g) (types : Told)
    → counted_at types c.items.store.bounds c.args.steps (here g c) c.items.tally ≡ counted_at types c.items.store.bounds c.args.steps (place_at c.turn.new.served (work_of c.turn.new.store) c.turn.new.reader (g.H.Host.now c.turn.new.host)) c.turn.new.tally
    → counted_at types (limit g c) c.args.steps (here g c) c.items.tally ≡ counted_at types (limit g c) c.args.steps (place_at c.turn.new.served (work_of c.turn.new.store) c.turn.new.reader (g.H.Host.now c.turn.new.host)) c.turn.new.tally
tallied_on g c types same =
    of_bounds g c (λ b. counted_at types b c.args.steps (here g c) c.items.tally ≡ counted_at types b c.args.steps (place_at c.turn.new.served (work_of c.turn.new.store) c.turn.new.reader (g.H.Host.now c.turn.new.host)) c.turn.new.tally) same

-- the session ended with this turn
ends_so : (g : Over) (c : After-turn g) (types : Told)
    → Ended types c.items.store.bounds c.args.steps g.H.Host.tells_said (here g c) (place_at c.turn.new.served (work_of c.turn.new.store) c.turn.new.reader (g.H.Host.now c.turn.new.host))
    → Ended types (limit g c) c.args.steps g.H.Host.tells_said (here g c) (place_at c.turn.new.served (work_of c.turn.new.store) c.turn.new.reader (g.H.Host.now c.turn.new.host))
ends_so g c types ended = of_bounds g c (λ b. Ended types b c.args.steps g.H.Host.tells_said (here g c) (place_at c.turn.new.served (work_of c.turn.new.store) c.turn.new.reader (g.H.Host.now c.turn.new.host))) ended

abbrev TurnWants : (g : Over) → After-turn g → Told → Type 0
TurnWants g c types = WantsInput types (limit g c) c.args.steps (here g c) (g.H.Host.now c.turn.new.host).taken

abbrev EndsSo : (g : Over) → After-turn g → Told → Type 0
EndsSo g c types = Ended types (limit g c) c.args.steps g.H.Host.tells_said (here g c) (place_at c.turn.new.served (work_of c.turn.new.store) c.turn.new.reader (g.H.Host.now c.turn.new.host))

turn_ended : (g : Over) (c : After-turn g) → g.H.Host.tells_input
    → ((types : Told) → AreToldAt types c.items.store.bounds c.args.steps (here g c) 1 → g.H.Host.tells_input → c.turn.result ≡ Ok Ends
    → Ended types c.items.store.bounds c.args.steps g.H.Host.tells_said (here g c) (place_at c.turn.new.served (work_of c.turn.new.store) c.turn.new.reader (g.H.Host.now c.turn.new.host)))
    → AreThere (limit g c) c.args.steps (here g c) 1 → c.turn.result ≡ Ok Ends → WithNext (limit g c) c.args.steps (here g c) (EndsSo g c)
turn_ended g c told ends there off = by_line there (λ types line. ends_so g c types (ends types (told_turn g c types line) told off))

pub items-init : goal.items-init
items-init g c = record {
  sound = search rules;
  up_to_date = search rules;
  bounds = search rules;
  input_bound = search rules;
  holds = search rules;
  counts = search rules;
  total = search rules;
  ended = search rules;
  counted = search rules;
  countable = omega (arith, ap (λ (t : Count). t.items) c.requires.none_counted);
  there = λ told. none_there c.args.store.now.bounds c.args.steps (start_place (work_of c.args.store.now) c.args.store.now.bounds.input (g.H.Host.now c.args.host.now));
  tallied = λ types are told. starts_counting types c.args.store.now.bounds c.args.steps (work_of c.args.store.now) (g.H.Host.now c.args.host.now) c.new-reader.result c.args.tally.now (c.new-reader.ensures ∙ ap fresh c.requires.same_bound) c.requires.none_counted;
  went = λ types are told. begins types _ _ _ (work_of c.args.store.now) c.args.store.now.bounds.input (g.H.Host.now c.args.host.now) c.new-reader.result (c.new-reader.ensures ∙ ap fresh c.requires.same_bound);
  asked = λ types are told_said told. none_asked _ _;
  asks_rise = search rules;
  stops = search rules;
  quiet = search rules;
  chosen = search rules;
  none_fell = search rules;
  faultless = search rules;
}

pub items-preserved : goal.items-preserved
items-preserved g c =
    let i = c.items.invariant in
    let at = (goal.at.items-preserved g c).After-turn in
    let count : c.turn.new.served ≡ c.items.served + 1 = c.turn.ensures.counts_one (search rules) in
    record {
      sound = search rules;
      up_to_date = search rules;
      bounds = search rules;
      input_bound = search rules;
      holds = λ told. c.in_ok-turn.ensures.holds told;
      counts = search rules;
      total = λ told. c.turn.ensures.total told ∙ i.total told;
      ended = λ told. c.in_ok-turn.ensures.ended told;
      counted = search rules;
      countable = search rules;
      there = λ told.
          next_there (limit g at) c.args.steps (work_of c.args.store.now) (g.H.Host.now c.args.host.now) g.H.Host.tells_said (here g at) (λ types are. i.went types are told) (i.there told)
          (there_turn g at (c.in_ok-turn.ensures.there told)) c.turn.new.served count;
      tallied = λ types are told.
          let both = up_to_turn g at told count types are in
          sym (tallied_on g at types (c.turn.ensures.tallied types (told_turn g at types both.1) told (search rules))) ∙ i.tallied types both.0 told;
      went = λ types are told.
          let both = up_to_turn g at told count types are in
          went_all g at types both.0 told (c.turn.ensures.goes_on types (told_turn g at types both.1) told (search rules));
      asked = λ types are told_said told.
          let both = up_to_turn g at told count types are in
          asks_on g at types both.0 told_said told (by_next (limit g at) c.args.steps (here g at) (TurnAsks g at) (turn_asked g at told_said told) types both.1);
      asks_rise = λ told. rises_on g (goal.at.items-preserved g c).After-turn told;
      stops = λ types are told told_said told_input quiet.
          let both = up_to_turn g at told_input count types are in
          stops_on g at types both.0 told told_said told_input quiet (by_next (limit g at) c.args.steps (here g at) (TurnStops g at) (turn_stops g at told told_said told_input quiet) types both.1);
      quiet = λ told quiet. c.in_ok-turn.ensures.quiet told (i.quiet told quiet);
      chosen = search rules;
      none_fell = search rules;
      faultless = search rules;
    }

pub returns-in_err-turn-clause-stops : goal.returns-in_err-turn-clause-stops
returns-in_err-turn-clause-stops g c told told_said told_input quiet =
    let at = (goal.at.returns-in_err-turn-clause-stops g c).After-turn in
    of_turn g at told_input (TurnStops g at) _ (λ types are turn. stops_on g at types are told told_said told_input quiet turn) (turn_stops g at told told_said told_input quiet)

pub returns-clause-stops : goal.returns-clause-stops
returns-clause-stops g c told told_said told_input quiet =
    let at = (goal.at.returns-clause-stops g c).After-turn in
    of_turn g at told_input (TurnStops g at) _ (λ types are turn. stops_on g at types are told told_said told_input quiet turn) (turn_stops g at told told_said told_input quiet)

pub returns-clause-said : goal.returns-clause-said
returns-clause-said g c told_said told =
    let at = (goal.at.returns-clause-said g c).After-turn in
    of_turn g at told (EndsSo g at) _ (λ types are ending.
    said_all types (limit g at) c.args.steps (work_of c.args.store.now) (g.H.Host.now c.args.host.now) g.H.Host.tells_said (here g at) _ ((c.items.invariant.went types are) told) ending told_said) (turn_ended g at told (c.turn.ensures.ends) (there_turn g at (c.in_ok-turn.ensures.there told)) (search rules))

pub returns-clause-counted : goal.returns-clause-counted
returns-clause-counted g c told =
    let at = (goal.at.returns-clause-counted g c).After-turn in
    of_turn g at told (λ types. counted_at types (limit g at) c.args.steps (here g at) c.items.tally ≡ c.turn.new.tally) _ (λ types are last. sym last ∙ c.items.invariant.tallied types are told)
    (by_line (there_turn g at (c.in_ok-turn.ensures.there told)) (λ types line.
    of_bounds g at (λ b. counted_at types b c.args.steps (here g at) c.items.tally ≡ c.turn.new.tally) (c.turn.ensures.tallied_whole types (told_turn g at types line) told (search rules))))

pub returns-clause-work : goal.returns-clause-work
returns-clause-work g c told =
    let at = (goal.at.returns-clause-work g c).After-turn in
    of_turn g at told (EndsSo g at) _ (λ types are ending.
    kept_all types (limit g at) c.args.steps (work_of c.args.store.now) (g.H.Host.now c.args.host.now) g.H.Host.tells_said (here g at) _ ((c.items.invariant.went types are) told) ending) (turn_ended g at told (c.turn.ensures.ends) (there_turn g at (c.in_ok-turn.ensures.there told)) (search rules))

pub returns-clause-ended : goal.returns-clause-ended
returns-clause-ended g c told =
    let at = (goal.at.returns-clause-ended g c).After-turn in
    of_turn g at told (EndsSo g at) _ (λ types are ending.
    ended_all types (limit g at) c.args.steps (work_of c.args.store.now) (g.H.Host.now c.args.host.now) g.H.Host.tells_said (here g at) _ ((c.items.invariant.went types are) told) ending
    (g.H.Host.now c.turn.new.host) refl (search rules) (c.turn.ensures.total told ∙ c.items.invariant.total told)) (turn_ended g at told (c.turn.ensures.ends) (there_turn g at (c.in_ok-turn.ensures.there told)) (search rules))

pub returns-in_err-turn-clause-asked : goal.returns-in_err-turn-clause-asked
returns-in_err-turn-clause-asked g c told_said told =
    let at = (goal.at.returns-in_err-turn-clause-asked g c).After-turn in
    of_turn g at told (TurnAsks g at) _ (λ types are turn. asks_on g at types are told_said told turn) (turn_asked g at told_said told)

pub returns-clause-asked : goal.returns-clause-asked
returns-clause-asked g c told_said told =
    let at = (goal.at.returns-clause-asked g c).After-turn in
    of_turn g at told (TurnAsks g at) _ (λ types are turn. asks_on g at types are told_said told turn) (turn_asked g at told_said told)

pub returns-in_err-turn-clause-waits : goal.returns-in_err-turn-clause-waits
returns-in_err-turn-clause-waits g c told stopped =
    let at = (goal.at.returns-in_err-turn-clause-waits g c).After-turn in
    of_turn g at told (TurnWants g at) _ (λ types are wants.
    waits_on types (limit g at) c.args.steps (work_of c.args.store.now) (g.H.Host.now c.args.host.now) g.H.Host.tells_said (here g at) (c.items.invariant.went types are told) (g.H.Host.now c.turn.new.host).taken wants (search rules))
    (of_bounds g at (λ b. WithNext b c.args.steps (here g at) (λ types. WantsInput types b c.args.steps (here g at) (g.H.Host.now c.turn.new.host).taken)) (c.turn.ensures.wants told (search rules)))

pub returns-in_err-turn-clause-waiting : goal.returns-in_err-turn-clause-waiting
returns-in_err-turn-clause-waiting g c told told_said told_input quiet stopped =
    let i = c.items.invariant in
    let at = (goal.at.returns-in_err-turn-clause-waiting g c).After-turn in
    of_turn g at told_input (TurnWants g at) _ (λ types are wants.
    waits types (limit g at) c.args.steps (work_of c.args.store.now) (g.H.Host.now c.args.host.now) g.H.Host.tells_said (here g at)
    (i.went types are told_input) (false_from_ne_true c.items.reader.ended (λ is. c.turn.ensures.ended_ends is (search rules))) (g.H.Host.now c.turn.new.host) (g.H.Host.stopped c.turn.new.host (g.H.Host.clock c.turn.new.host)) told_said
    wants (search rules) (c.turn.ensures.idle told (i.quiet told quiet) (search rules)))
    (of_bounds g at (λ b. WithNext b c.args.steps (here g at) (λ types. WantsInput types b c.args.steps (here g at) (g.H.Host.now c.turn.new.host).taken)) (c.turn.ensures.wants told_input (search rules)))

pub returns-in_err-turn-clause-between : goal.returns-in_err-turn-clause-between
returns-in_err-turn-clause-between g c told told_said told_input quiet stopped =
    let i = c.items.invariant in
    let at = (goal.at.returns-in_err-turn-clause-between g c).After-turn in
    let first = g.H.Host.now c.args.host.now in
    let mid = g.H.Host.now c.items.host in
    let now = g.H.Host.stopped c.turn.new.host (g.H.Host.clock c.turn.new.host) in
    of_turn g at told_input (λ types. IsBetween OpensTo (works (work_of c.items.store) (session_at types (limit g at) c.args.steps (here g at))) (replies (session_at types (limit g at) c.args.steps (here g at))) mid.said (g.H.Host.now c.turn.new.host).said now) _
    (λ types are turn.
    between_later OpensTo (works (work_of c.args.store.now) (whole g at types)) (replies (whole g at types)) (works (work_of c.items.store) (session_at types (limit g at) c.args.steps (here g at))) (replies (session_at types (limit g at) c.args.steps (here g at)))
    first.said mid.said (g.H.Host.now c.turn.new.host).said now (told_served _ _ _ _ g.H.Host.tells_said first.said mid.said told_said (served_on g at types are told_input)) turn)
    (by_any (λ types. idle_between (work_of c.items.store) (session_at types (limit g at) c.args.steps (here g at)) mid.said (g.H.Host.now c.turn.new.host).said now (search rules) (c.turn.ensures.idle told (i.quiet told quiet) (search rules))))

pub returns-in_err-turn-clause-broken : goal.returns-in_err-turn-clause-broken
returns-in_err-turn-clause-broken g c told told_said told_input quiet stopped =
    let i = c.items.invariant in
    let at = (goal.at.returns-in_err-turn-clause-broken g c).After-turn in
    let first = g.H.Host.now c.args.host.now in
    let mid = g.H.Host.now c.items.host in
    let now = g.H.Host.stopped c.turn.new.host (g.H.Host.clock c.turn.new.host) in
    of_turn g at told_input (λ types. IsBroken OpensTo (works (work_of c.items.store) (session_at types (limit g at) c.args.steps (here g at))) (replies (session_at types (limit g at) c.args.steps (here g at))) mid.said (g.H.Host.now c.turn.new.host).said now) _
    (λ types are turn.
    broken_later OpensTo (works (work_of c.args.store.now) (whole g at types)) (replies (whole g at types)) (works (work_of c.items.store) (session_at types (limit g at) c.args.steps (here g at))) (replies (session_at types (limit g at) c.args.steps (here g at)))
    first.said mid.said (g.H.Host.now c.turn.new.host).said now (told_served _ _ _ _ g.H.Host.tells_said first.said mid.said told_said (served_on g at types are told_input)) turn)
    (of_bounds g at (λ b. WithNext b c.args.steps (here g at) (λ types. IsBroken OpensTo (works (work_of c.items.store) (session_at types b c.args.steps (here g at))) (replies (session_at types b c.args.steps (here g at))) mid.said (g.H.Host.now c.turn.new.host).said now))
    (c.turn.ensures.broken told told_said told_input (i.quiet told quiet) (search rules)))

pub returns-in_err-turn-clause-cut_short : goal.returns-in_err-turn-clause-cut_short
returns-in_err-turn-clause-cut_short g c told told_said told_input quiet stopped =
    let i = c.items.invariant in
    let at = (goal.at.returns-in_err-turn-clause-cut_short g c).After-turn in
    let first = g.H.Host.now c.args.host.now in
    let mid = g.H.Host.now c.items.host in
    let now = g.H.Host.stopped c.turn.new.host (g.H.Host.clock c.turn.new.host) in
    of_turn g at told_input (λ types. IsCutShort OpensTo (works (work_of c.items.store) (session_at types (limit g at) c.args.steps (here g at))) (replies (session_at types (limit g at) c.args.steps (here g at))) mid.said (g.H.Host.now c.turn.new.host).said now) _
    (λ types are turn.
    cut_later OpensTo (works (work_of c.args.store.now) (whole g at types)) (replies (whole g at types)) (works (work_of c.items.store) (session_at types (limit g at) c.args.steps (here g at))) (replies (session_at types (limit g at) c.args.steps (here g at)))
    first.said mid.said (g.H.Host.now c.turn.new.host).said now (told_served _ _ _ _ g.H.Host.tells_said first.said mid.said told_said (served_on g at types are told_input)) turn)
    (of_bounds g at (λ b. WithNext b c.args.steps (here g at) (λ types. IsCutShort OpensTo (works (work_of c.items.store) (session_at types b c.args.steps (here g at))) (replies (session_at types b c.args.steps (here g at))) mid.said (g.H.Host.now c.turn.new.host).said now))
    (c.turn.ensures.cut_short told told_said told_input (i.quiet told quiet) (search rules)))

pub returns-clause-asks_rise : goal.returns-clause-asks_rise
returns-clause-asks_rise g c told = rises_to_end g (goal.at.returns-clause-asks_rise g c).After-turn told

pub returns-in_err-turn-clause-asks_rise : goal.returns-in_err-turn-clause-asks_rise
returns-in_err-turn-clause-asks_rise g c told = rises_to_end g (goal.at.returns-in_err-turn-clause-asks_rise g c).After-turn told
