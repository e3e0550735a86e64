use Rattle.std.proofs.Common.{◌≡◌, ◌++◌, ◌∷◌, [], Err, subst}
use Rattle.abc_terms.specs.declared.demand.Demand.TheVariants as demand
use Rattle.abc_unify.specs.declared.graph.UnifyFault.TheVariants.{Clash}
use Rattle.abc_unify.specs.Graphs.{Seen, IsUnsolvable}
use Rattle.abc_unify.proofs.Solved.{solved_has_solution}
use Rattle.abc_unify.proofs.graph.Graph.equal.Goals as goal

pub returns-clause-solvable : goal.returns-clause-solvable
returns-clause-solvable c = solved_has_solution c.add.new.self.slots.items c.add.new.self.demands.items c.add.ensures.kept.kept.solved

pub returns-clause-clash : goal.returns-clause-clash
returns-clause-clash c = subst (λ (s : Seen). c.add.result ≡ Err Clash → IsUnsolvable (s.demands ++ demand.Equal c.args.a c.args.b ∷ [])) c.self.view_is c.add.ensures.clash
