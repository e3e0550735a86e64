use Rattle.std.proofs.Common.{rules, List, ℕ, inl, inr, refl, sym, subst}
use Rattle.abc_session.specs.Run.{IsSummary}
use Rattle.abc_session.proofs.Summing.{made_idle, saying_summary}
use Rattle.abc_session.proofs.made.run_made.Given.{Over}
use Rattle.abc_session.proofs.made.run_made.Goals.{After-say_all}
use Rattle.abc_session.proofs.made.run_made.Goals as goal

-- what is said is the summary
said_is : (g : Over) (c : After-say_all g) → IsSummary c.args.count c.args.steps c.deref.result.now
said_is g c = subst (λ (l : List ℕ). IsSummary c.args.count c.args.steps l) (sym c.deref.ensures.value) c.in-Ok.ensures

pub returns-in_default-clause-run : goal.returns-in_default-clause-run
returns-in_default-clause-run g c =
    made_idle g.H.Host.tells_said g.H.Host.now g.H.Host.clock g.H.Host.stopped c.args.count c.args.steps c.args.host.now (g.met.H.Host.says_now c.args.host.now)

pub returns-in-Ok-say_all-clause-run : goal.returns-in-Ok-say_all-clause-run
returns-in-Ok-say_all-clause-run g c =
    let at = (goal.at.returns-in-Ok-say_all-clause-run g c).After-say_all in
    record {
      status_is = inl refl;
      whole = λ told _. record { line = c.deref.result.now; is_summary = said_is g at; said_is = c.in-Ok-say_all.ensures.all told };
      in_part = search rules;
      nothing = search rules;
      rest = c.say_all.ensures.rest;
      stops = λ told. saying_summary g.H.Host.tells_said g.H.Host.now g.H.Host.clock g.H.Host.stopped c.args.count c.args.steps c.args.host.now c.say_all.new.host c.deref.result.now (said_is g at)
          (g.met.H.Host.says_now c.args.host.now) (c.say_all.ensures.stops told);
    }

pub returns-clause-run : goal.returns-clause-run
returns-clause-run g c =
    let at = (goal.at.returns-clause-run g c).After-say_all in
    record {
      status_is = inr (inl refl);
      whole = search rules;
      in_part = λ told _.
          let part = c.in-Err.ensures.part told in
          record { line = c.deref.result.now; is_summary = said_is g at; bytes = part.0; short = part.1; said_is = part.2 };
      nothing = search rules;
      rest = c.say_all.ensures.rest;
      stops = λ told. saying_summary g.H.Host.tells_said g.H.Host.now g.H.Host.clock g.H.Host.stopped c.args.count c.args.steps c.args.host.now c.say_all.new.host c.deref.result.now (said_is g at)
          (g.met.H.Host.says_now c.args.host.now) (c.say_all.ensures.stops told);
    }
