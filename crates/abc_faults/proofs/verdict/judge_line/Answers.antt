use Rattle.std.proofs.Common.{sym, ◌∙◌}
use Rattle.abc_faults.specs.Facts.{clause_of}
use Rattle.abc_faults.proofs.Judgements.{early_found, few_lines}
use Rattle.abc_faults.proofs.verdict.judge_line.Goals as goal

pub returns-in-Some : goal.returns-in-Some
returns-in-Some c =
    early_found c.args.facts.now c.args.sight c.args.row.now c.args.below.now (clause_of c.args.facts.now c.args.sight.place c.args.row.now) c.in-Some.kind (sym c.early_fault.ensures ∙ c.in-Some.is)

pub judge_read-requires-clause-few : goal.judge_read-requires-clause-few
judge_read-requires-clause-few c = few_lines c.args.facts.now c.args.sight c.args.row.now c.args.below.now (sym c.early_fault.ensures ∙ c.in-None.is)
