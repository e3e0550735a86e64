use Rattle.std.proofs.Common.{subst}
use Rattle.abc_unify.specs.Graphs.{Seen, HasSolution}
use Rattle.abc_unify.proofs.Solved.{solved_has_solution}
use Rattle.abc_unify.proofs.graph.Graph.count.Goals as goal

pub returns-clause-solvable : goal.returns-clause-solvable
returns-clause-solvable c = subst (λ (s : Seen). HasSolution s.demands) c.self.view_is (solved_has_solution c.self.inside.state.slots.items c.self.inside.state.demands.items c.self.invariant.kept.solved)
