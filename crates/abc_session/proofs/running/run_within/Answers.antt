use Rattle.std.proofs.Common.{rules, ◌≡◌, List, ℕ, inl, inr, refl, sym, ap, subst}
use Rattle.std.specs.Prelude.{None, map, length}
use Rattle.abc_turns.specs.Session.{replies, works}
use Rattle.abc_turns.specs.Stops.{IsBetween}
use Rattle.abc_reader.specs.Asking.{Asked}
use Rattle.abc_reader.proofs.Asks.{none_asked}
use Rattle.abc_session.specs.Session.{session_of}
use Rattle.abc_session.specs.Settled.{AsksSettled}
use Rattle.abc_session.specs.Serving.{OpensTo, IsSessionPoint}
use Rattle.abc_session.proofs.Told.{by_all}
use Rattle.abc_words.specs.Words.{reading}
use Rattle.abc_session.specs.Run.{store_in, made_in, steps_in, steps_named, IsRun}
use Rattle.abc_session.proofs.Broken.{idle_between}
use Rattle.abc_session.proofs.Runs.{still_here, still_point}
use Rattle.abc_session.proofs.Summing.{made_run, made_idle}
use Rattle.abc_session.proofs.running.run_within.Goals as goal

-- the words name a store
pub returns-in-Ok-Run : goal.returns-in-Ok-Run
returns-in-Ok-Run g c =
    let words : List (List ℕ) = map (λ word. word.now) c.args.words.now in
    let reads = rw c.in-Ok-Run.field-0-is at c.in-Ok-Run.ensures.read in
    record {
      run = subst (λ n. IsRun g.H.Host.tells_chosen g.H.Host.tells_image g.H.Host.tells_input g.H.Host.tells_said g.H.Host.now g.H.Host.clock g.H.Host.stopped c.args.b.now words n c.args.host.now c.run_named.new.host c.run_named.result)
          (sym (ap steps_in reads)) (c.run_named.ensures.run words reads);
    }

-- they ask for a made input
pub returns-in-Ok-Make : goal.returns-in-Ok-Make
returns-in-Ok-Make g c =
    let words : List (List ℕ) = map (λ word. word.now) c.args.words.now in
    let reads = rw c.in-Ok-Make.field-0-is at c.in-Ok-Make.ensures.read in
    record {
      run = subst (λ n. IsRun g.H.Host.tells_chosen g.H.Host.tells_image g.H.Host.tells_input g.H.Host.tells_said g.H.Host.now g.H.Host.clock g.H.Host.stopped c.args.b.now words n c.args.host.now c.run_made.new.host c.run_made.result)
          (sym (ap steps_in reads))
          (made_run g.H.Host.tells_chosen g.H.Host.tells_image g.H.Host.tells_input g.H.Host.tells_said g.H.Host.now g.H.Host.clock g.H.Host.stopped c.args.b.now words c.in-Ok-Make.count c.in-Ok-Make.steps
          c.args.host.now c.run_made.new.host c.run_made.result reads (c.run_made.ensures.cause c.args.b.now) c.run_made.ensures.run);
    }

-- they don't read, or there is no memory to read them: nothing is done
pub returns-in-Err-Usage : goal.returns-in-Err-Usage
returns-in-Err-Usage g c =
    let old = g.H.Host.now c.args.host.now in
    let words : List (List ℕ) = map (λ word. word.now) c.args.words.now in
    let none : reading words ≡ None = c.read_words.ensures.usage (search rules) in
    record {
      run = record {
        complete = search rules;
        status_is = search rules;
        usage = λ is. none;
        unread = λ none. inl refl;
        cause = search rules;
        refused = search rules;
        waits = search rules;
        most_taken = search rules;
        completeness = search rules;
        usage_nothing = search rules;
        unread_nothing = λ _. refl;
        untouched = search rules;
        untouched_stops = λ unmade told still at wrong. still_here g.H.Host.clock g.H.Host.stopped c.args.host.now old.image old.said still (g.met.H.Host.says_now c.args.host.now);
        chosen = λ told named is. absurd (cc (ap store_in none, is));
        none_chosen = λ _. refl;
        asked = λ told told_said told_input work start. by_all c.args.b.now (steps_named words) work old.left (λ types. Asked (AsksSettled types c.args.b.now (steps_named words) work old.left (length old.said)) old.asked old.asked) (λ types. none_asked _ _);
        asks_rise = search rules;
        stands = λ unmade told told_said told_input still work start. inr (record {
          waiting = search rules;
          between = search rules;
          broken = search rules;
          cut_short = search rules;
        });
        headline = λ unmade told told_said told_input still work start.
            by_all c.args.b.now (steps_named words) work old.left (λ types. (i s : List ℕ) → g.H.Host.stopped c.args.host.now (g.H.Host.clock c.args.host.now) i s → IsSessionPoint work (session_of types c.args.b.now (steps_named words) work old.left) old.said i s) (λ types.
            still_point g.H.Host.clock g.H.Host.stopped c.args.host.now old.image old.said work (session_of types c.args.b.now (steps_named words) work old.left) still (g.met.H.Host.says_now c.args.host.now) start);
        last = search rules;
        made = λ count is. absurd (cc (ap made_in none, is));
      };
    }

pub returns-in-Err-Memory : goal.returns-in-Err-Memory
returns-in-Err-Memory g c =
    let old = g.H.Host.now c.args.host.now in
    let words : List (List ℕ) = map (λ word. word.now) c.args.words.now in
    record {
      run = record {
        complete = search rules;
        status_is = search rules;
        usage = search rules;
        unread = λ none. inr refl;
        cause = search rules;
        refused = search rules;
        waits = search rules;
        most_taken = search rules;
        completeness = search rules;
        usage_nothing = search rules;
        unread_nothing = λ _. refl;
        untouched = search rules;
        untouched_stops = λ unmade told still at wrong. still_here g.H.Host.clock g.H.Host.stopped c.args.host.now old.image old.said still (g.met.H.Host.says_now c.args.host.now);
        chosen = λ told named is. inr (refl, inr (inr refl));
        none_chosen = λ _. refl;
        asked = λ told told_said told_input work start. by_all c.args.b.now (steps_named words) work old.left (λ types. Asked (AsksSettled types c.args.b.now (steps_named words) work old.left (length old.said)) old.asked old.asked) (λ types. none_asked _ _);
        asks_rise = search rules;
        stands = λ unmade told told_said told_input still work start. inr (record {
          waiting = search rules;
          between = λ is. by_all c.args.b.now (steps_named words) work old.left (λ types. IsBetween OpensTo (works work (session_of types c.args.b.now (steps_named words) work old.left)) (replies (session_of types c.args.b.now (steps_named words) work old.left)) old.said old.said (g.H.Host.stopped c.args.host.now (g.H.Host.clock c.args.host.now))) (λ types. idle_between work (session_of types c.args.b.now (steps_named words) work old.left) old.said old.said (g.H.Host.stopped c.args.host.now (g.H.Host.clock c.args.host.now)) refl (λ i s stop. subst (λ (m : List ℕ). OpensTo m work) (sym (still i s stop)) start.kept));
          broken = search rules;
          cut_short = search rules;
        });
        headline = λ unmade told told_said told_input still work start.
            by_all c.args.b.now (steps_named words) work old.left (λ types. (i s : List ℕ) → g.H.Host.stopped c.args.host.now (g.H.Host.clock c.args.host.now) i s → IsSessionPoint work (session_of types c.args.b.now (steps_named words) work old.left) old.said i s) (λ types.
            still_point g.H.Host.clock g.H.Host.stopped c.args.host.now old.image old.said work (session_of types c.args.b.now (steps_named words) work old.left) still (g.met.H.Host.says_now c.args.host.now) start);
        last = search rules;
        made = λ count is. made_idle g.H.Host.tells_said g.H.Host.now g.H.Host.clock g.H.Host.stopped count (steps_named words) c.args.host.now (g.met.H.Host.says_now c.args.host.now);
      };
    }
