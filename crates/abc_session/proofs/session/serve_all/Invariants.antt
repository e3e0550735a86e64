use Rattle.std.proofs.Common.{◌≡◌, ◌≤◌, ◌+◌, ◌-◌, [], length, true, IsTrue}
use Rattle.abc_outside.specs.Outside.{IsFaultless}
use Rattle.abc_outside.specs.Stop.{Leaves, IsQuiet}
use Rattle.abc_reader.specs.Asking.{Asked, AskedRising, next_ask}
use Rattle.abc_outcome.specs.Checks.{IsUpToDate}
use Rattle.abc_session.specs.Session.{Told, session_of}
use Rattle.abc_make.specs.Summary.{counted as counts_of}
use Rattle.abc_turns.specs.Session.{replies}
use Rattle.abc_store.specs.Commit.{Holds}
use Rattle.abc_store.specs.View.{work_of}
use Rattle.abc_session.specs.Serving.{IsSessionPoint, NoneFell}
use Rattle.abc_session.specs.Settled.{AsksSettled}
use Rattle.abc_session.specs.Place.{start_place, place_at, counted_at, AreToldAt, AreThere, WentOn}
use Rattle.abc_session.proofs.session.serve_all.Given as goal

abbrev pub invariant-items : goal.invariant-items
invariant-items g l =
    let first = g.H.Host.now l.initial.host in
    let now = g.H.Host.now l.host in
    let limit = l.initial.store.bounds in
    let work = work_of l.initial.store in
    record {
      sound : IsTrue l.store.sound;
      up_to_date : IsUpToDate l.checker l.store.kept.units;
      bounds : l.store.bounds ≡ l.initial.store.bounds;
      input_bound : l.reader.bound ≡ l.bound;
      holds : g.H.Host.tells_image → Holds now.image (work_of l.store);
      counts : now.taken ≡ l.reader.taken;
      total : g.H.Host.tells_input → l.reader.taken + length now.left ≡ length first.left;
      ended : g.H.Host.tells_input → l.reader.ended ≡ true → now.left ≡ [];
      counted : l.served ≤ l.reader.used;
      countable : l.tally.items ≤ l.served;
      there : g.H.Host.tells_input → AreThere limit l.steps (start_place work limit.input first) l.served;
      tallied : (types : Told) → AreToldAt types limit l.steps (start_place work limit.input first) l.served → g.H.Host.tells_input → counted_at types limit l.steps (place_at l.served (work_of l.store) l.reader now) l.tally ≡ counts_of (replies (session_of types limit l.steps work first.left));
      went : (types : Told) → AreToldAt types limit l.steps (start_place work limit.input first) l.served → g.H.Host.tells_input → WentOn types limit l.steps g.H.Host.tells_said (start_place work limit.input first) (place_at l.served (work_of l.store) l.reader now);
      asked : (types : Told) → AreToldAt types limit l.steps (start_place work limit.input first) l.served → g.H.Host.tells_said → g.H.Host.tells_input → Asked (AsksSettled types limit l.steps work first.left (length first.said)) first.asked now.asked;
      asks_rise : g.H.Host.tells_said → AskedRising 0 (next_ask l.reader.taken l.reader.ended) first.asked now.asked;
      stops : (types : Told) → AreToldAt types limit l.steps (start_place work limit.input first) l.served → g.H.Host.tells_image → g.H.Host.tells_said → g.H.Host.tells_input → IsQuiet g.H.Host.clock g.H.Host.stopped l.initial.host first.image
          → Leaves g.H.Host.clock g.H.Host.stopped l.initial.host l.host (IsSessionPoint work (session_of types limit l.steps work first.left) first.said);
      quiet : g.H.Host.tells_image → IsQuiet g.H.Host.clock g.H.Host.stopped l.initial.host first.image → IsQuiet g.H.Host.clock g.H.Host.stopped l.host now.image;
      chosen : now.chosen ≡ first.chosen;
      none_fell : NoneFell first now;
      faultless : IsFaultless first now;
    }

abbrev pub decreases-items : goal.decreases-items
decreases-items g l = l.reader.bound - l.reader.used
