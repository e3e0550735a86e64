use Rattle.std.proofs.Common.{sym, subst}
use Rattle.abc_journal.specs.Checkpoint.{room_for, after_checkpoint}
use Rattle.abc_store.specs.Opening.{OpensTo}
use Rattle.abc_store.proofs.Images.{checkpoint_left, checkpoint_opens, checkpoint_stops, typed_of}
use Rattle.abc_store.proofs.Stepping.{unless_fault}
use Rattle.abc_store.proofs.steps.renew.Goals as goal

pub returns-clause-opens : goal.returns-clause-opens
returns-clause-opens g c told kept leads is =
    let journal = c.args.journal.now in
    let bytes = c.args.payload.now in
    let new = (g.H.Host.now c.checkpoint.new.host).image in
    unless_fault c.checkpoint.result (OpensTo new kept)
    (checkpoint_opens c.checkpoint.result (room_for journal.layout journal.bounds.image _) (λ place. after_checkpoint journal.layout place _) new bytes kept leads (typed_of (g.H.Host.now c.args.host.now).image kept is) c.checkpoint.ensures.full (c.checkpoint.ensures.kept told))
    (λ full. subst (λ h. OpensTo (g.H.Host.now h).image kept) (sym (c.checkpoint.ensures.same_host full)) is)
    c.checkpoint.ensures.no_memory

pub returns-clause-payloads : goal.returns-clause-payloads
returns-clause-payloads g c told =
    let journal = c.args.journal.now in
    checkpoint_left c.checkpoint.result (room_for journal.layout journal.bounds.image _) (λ place. after_checkpoint journal.layout place _) _ c.args.payload.now c.checkpoint.ensures.full (c.checkpoint.ensures.kept told)

pub returns-clause-stops : goal.returns-clause-stops
returns-clause-stops g c told quiet kept leads is =
    checkpoint_stops g.H.Host.clock g.H.Host.stopped c.args.host.now c.checkpoint.new.host (g.H.Host.now c.args.host.now).image (g.H.Host.now c.args.host.now).said kept is c.args.payload.now leads (c.checkpoint.ensures.stops told quiet)
