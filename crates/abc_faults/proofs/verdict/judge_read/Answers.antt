use Rattle.std.proofs.Common.{sym, ◌∙◌}
use Rattle.abc_faults.proofs.Judgements.{judged_none, judged_clause}
use Rattle.abc_faults.proofs.verdict.judge_read.Goals as goal

pub returns-in-None : goal.returns-in-None
returns-in-None c = judged_none c.args.facts.now c.args.sight c.args.row.now c.args.below.now (sym c.in_ok-clause_read.ensures ∙ c.in-None.is) c.requires.early

pub returns-in-Some : goal.returns-in-Some
returns-in-Some c = judged_clause c.args.facts.now c.args.sight c.args.row.now c.args.below.now _ c.in-Some.clause (sym c.in_ok-clause_read.ensures ∙ c.in-Some.is) c.requires.early c.judge_clause.ensures
