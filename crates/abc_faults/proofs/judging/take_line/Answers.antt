use Rattle.std.proofs.lemmas.Result.{IfOk-weaker}
use Rattle.abc_faults.specs.inner.Verdicts.{Settles, Takes}
use Rattle.abc_faults.proofs.Judgements.{takes}
use Rattle.abc_faults.proofs.judging.take_line.Goals as goal

pub returns : goal.returns
returns c =
    IfOk-weaker c.settle.result (λ found. Settles c.in_ok-verdict.verdict c.args.row.now.edges.indent found c.args.lines.now c.settle.new.lines)
    (λ found. Takes found c.args.facts.now c.args.sight c.args.row.now c.args.below.now c.args.lines.now c.settle.new.lines)
    (λ found. takes c.args.facts.now c.args.sight c.args.row.now c.args.below.now c.in_ok-verdict.verdict c.args.lines.now c.settle.new.lines found c.in_ok-verdict.ensures) c.settle.ensures
