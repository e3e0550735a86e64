use Rattle.std.proofs.Common.{◌++◌, ap, sym, ◌∙◌}
use Rattle.abc_parse.specs.Items.{numbered, shared_by}
use Rattle.abc_parse.proofs.computing.Taking.{shared_more}
use Rattle.abc_parse.proofs.shares.shared_names.Goals as goal

pub loop-line-preserved : goal.loop-line-preserved
loop-line-preserved c =
    c.in_ok-add_shared.ensures ∙ ap (λ l. l ++ numbered c.args.names.now (shared_by c.line-item.result.clause.head)) c.loop-line.invariant
    ∙ sym (shared_more c.args.names.now c.args.lines.now c.loop-line.line-index c.line-item.result c.loop-line-test.true c.line-item.is)
