use Rattle.std.proofs.Common.{refl}
use Rattle.abc_store.specs.Commit.{stored}
use Rattle.abc_store.specs.View.{work_of}
use Rattle.abc_outcome.specs.Outcome.{Ending}
use Rattle.abc_outcome.proofs.Commits.{commit_stops, kept_answers}
use Rattle.abc_outcome.proofs.keeping.keep.Goals as goal

pub returns : goal.returns
returns g c later left lead =
    let ending : Ending = record { output = c.args.ending.output.items; left = left; line = c.args.ending.line.items; quits = c.args.ending.quit } in
    let found = stored c.args.store.now.bounds (work_of c.args.store.now) c.args.changes.items later in
    let done = c.commit-committed.ensures in
    kept_answers g.H.Host.tells_image g.H.Host.now g.H.Host.clock g.H.Host.stopped c.args.store.now c.commit-committed.new.self c.args.host.now c.commit-committed.new.host found c.commit-committed.result c.told.result
    c.args.k ending c.in_ok-replies.replies.written.items c.in_ok-replies.replies.kept.items c.in_ok-replies.replies.full.items c.in_ok-replies.replies.large.items
    (record {
      answer = done.answer later lead;
      work = done.work later lead;
      holds = done.holds;
      fault = done.fault;
      faultless = done.faultless;
      same = done.same;
      same_host = done.same_host;
      rest = done.rest;
      bounds = done.bounds;
      sound = done.sound;
      unsound = done.unsound;
      quiet = done.quiet;
    })
    c.told.ensures c.in_ok-replies.ensures.written c.in_ok-replies.ensures.kept c.in_ok-replies.ensures.full c.in_ok-replies.ensures.large
    (λ told quiet. commit_stops g.H.Host.tells_image g.H.Host.now g.H.Host.clock g.H.Host.stopped c.args.store.now c.args.host.now c.commit-committed.new.host c.args.changes.items later found c.args.k ending lead refl
    (done.stops told quiet later lead) (λ refusal is. done.unfit_stops told quiet later refusal lead is))
