use Rattle.std.proofs.Common.{sym, subst}
use Rattle.abc_store.specs.View.{work_of}
use Rattle.abc_inquiry.specs.declared.answering.Answered.{Answered}
use Rattle.abc_outcome.specs.Outcome.{on_inquiry}
use Rattle.abc_outcome.specs.inner.Settling.{Settles}
use Rattle.abc_outcome.proofs.inquiries.answer_found.Goals as goal

pub returns-in-Drops-clause-settles : goal.returns-in-Drops-clause-settles
returns-in-Drops-clause-settles g c behind =
    subst (λ (found : Answered). Settles g.H.Host.tells_image g.H.Host.now g.H.Host.clock g.H.Host.stopped c.args.store.now c.drop_unit.new.store c.args.host.now c.drop_unit.new.host c.drop_unit.result behind.lines
    (on_inquiry c.args.store.now.bounds c.args.k (work_of c.args.store.now) behind.lines found)) (sym c.in-Drops.is) (c.drop_unit.ensures.settles behind)
