use Rattle.std.proofs.Common.{not, ap, ◌∙◌}
use Rattle.abc_clauses.proofs.Fitting.{same_misplaced}
use Rattle.abc_clauses.proofs.formulas.is_misplaced.Goals as goal

pub returns : goal.returns
returns c own = ap not c.is_placed.ensures ∙ same_misplaced c.args.kinds.now own c.args.clause.now
