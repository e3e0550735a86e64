use Rattle.std.proofs.Common.{subst}
use Rattle.abc_store.specs.View.{work_of}
use Rattle.abc_inquiry.specs.declared.answering.Answered.{Answered}
use Rattle.abc_outcome.specs.Outcome.{on_inquiry}
use Rattle.abc_outcome.specs.inner.Settling.{Settles}
use Rattle.abc_outcome.proofs.inquiries.answer_inquiry.Goals as goal

pub returns-clause-settles : goal.returns-clause-settles
returns-clause-settles g c behind =
    subst (λ (found : Answered). Settles g.H.Host.tells_image g.H.Host.now g.H.Host.clock g.H.Host.stopped c.args.store.now c.answer_found.new.store c.args.host.now c.answer_found.new.host c.answer_found.result behind.lines
    (on_inquiry c.args.store.now.bounds c.args.k (work_of c.args.store.now) behind.lines found)) c.in_ok-found.ensures (c.answer_found.ensures.settles behind)
