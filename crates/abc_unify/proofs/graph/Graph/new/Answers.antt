use Rattle.abc_unify.proofs.Solved.{solved_has_solution}
use Rattle.abc_unify.proofs.graph.Graph.new.Goals as goal

pub returns-clause-solvable : goal.returns-clause-solvable
returns-clause-solvable c = solved_has_solution c.new.result.slots.items c.new.result.demands.items c.new.ensures.kept.kept.solved
