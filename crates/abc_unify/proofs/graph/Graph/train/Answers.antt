use Rattle.std.proofs.Common.{◌≡◌, ◌++◌, ◌∷◌, [], Err, subst}
use Rattle.abc_terms.specs.declared.demand.Demand.TheVariants as demand
use Rattle.abc_unify.specs.declared.graph.UnifyFault.TheVariants.{Clash}
use Rattle.abc_unify.specs.Graphs.{Seen, IsUnsolvable}
use Rattle.abc_unify.proofs.Forming.{train_is}
use Rattle.abc_unify.proofs.Solved.{solved_has_solution}
use Rattle.abc_unify.proofs.graph.Graph.train.Goals as goal

pub add-requires-clause-same : goal.add-requires-clause-same
add-requires-clause-same c v = train_is (v c.args.a.0) (v c.args.e.0)

pub returns-clause-solvable : goal.returns-clause-solvable
returns-clause-solvable c = solved_has_solution c.add.new.self.slots.items c.add.new.self.demands.items c.add.ensures.kept.kept.solved

pub returns-clause-clash : goal.returns-clause-clash
returns-clause-clash c = subst (λ (s : Seen). c.add.result ≡ Err Clash → IsUnsolvable (s.demands ++ demand.Train c.args.a c.args.e ∷ [])) c.self.view_is c.add.ensures.clash
