use Rattle.abc_scheme.proofs.Later.{back_first}
use Rattle.abc_principal.proofs.principal.Principal.instance.Goals as goal

pub returns-in-Err-clause-graph : goal.returns-in-Err-clause-graph
returns-in-Err-clause-graph c = back_first c.args.g.now c.place.new.g c.undo.new.self c.mark-before.result c.mark-before.ensures c.in-Err.ensures.later c.undo.ensures.back
