use Rattle.std.proofs.Common.{◌≡◌, ◌∙◌}
use Rattle.abc_outside.specs.MemoryView.{outside_of}
use Rattle.abc_make.specs.Summary.{summary}
use Rattle.abc_session.specs.Run.{IsSummary}
use Rattle.abc_session.proofs.Summing.{is_summary, if_ok}
use Rattle.abc_session.proofs.made.made_summary.Goals as goal

-- the session in the store of its own was complete, and its replies were counted
pub returns-then-run_store-eq-COMPLETE : goal.returns-then-run_store-eq-COMPLETE
returns-then-run_store-eq-COMPLETE c =
    let done = c.if-run_store-eq-COMPLETE.true in
    if_ok (λ line. line.items ≡ summary c.args.count c.run_store.new.tally) (λ line. IsSummary c.args.count c.args.steps line.items) c.summary_of.result
    (λ line is. is_summary c.args.count c.args.steps line.items c.run_store.new.tally c.product.result (outside_of c.new-inner.result) (outside_of c.run_store.new.host) c.product.ensures
    (c.new-inner.ensures.made.image ∙ c.new.ensures.items) (c.new-inner.ensures.made.left ∙ c.in_ok-input.ensures) (c.run_store.ensures.complete tt tt tt done) (c.run_store.ensures.counted tt tt done) is)
    c.summary_of.ensures
