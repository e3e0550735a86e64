use Rattle.std.proofs.Common.{◌≡◌, ◌++◌, Err, subst}
use Rattle.abc_unify.specs.declared.graph.UnifyFault.TheVariants.{Clash}
use Rattle.abc_unify.specs.Graphs.{Seen, IsUnsolvable}
use Rattle.abc_unify.proofs.Solved.{solved_has_solution}
use Rattle.abc_unify.proofs.graph.Graph.demand_all.Goals as goal

pub returns-clause-solvable : goal.returns-clause-solvable
returns-clause-solvable c = solved_has_solution c.add_all.new.self.slots.items c.add_all.new.self.demands.items c.add_all.ensures.kept.kept.solved

pub returns-clause-clash : goal.returns-clause-clash
returns-clause-clash c = subst (λ (s : Seen). c.add_all.result ≡ Err Clash → IsUnsolvable (s.demands ++ c.args.demands.items)) c.self.view_is c.add_all.ensures.clash
