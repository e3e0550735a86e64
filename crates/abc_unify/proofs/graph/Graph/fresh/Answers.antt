use Rattle.std.proofs.Common.{length, ap}
use Rattle.abc_unify.specs.Graphs.{Seen}
use Rattle.abc_unify.proofs.Solved.{solved_has_solution, answered_unnamed}
use Rattle.abc_unify.proofs.graph.Graph.fresh.Goals as goal

pub returns-clause-unnamed : goal.returns-clause-unnamed
returns-clause-unnamed c =
    let s = c.self.inside.state in
    answered_unnamed c.add_variable.result (length s.slots.items) s.demands.items c.args.self.now.demands (ap (λ (t : Seen). t.demands) c.self.view_is) c.self.invariant.kept.solved.made c.add_variable.ensures.number

pub returns-clause-solvable : goal.returns-clause-solvable
returns-clause-solvable c = solved_has_solution c.add_variable.new.self.slots.items c.add_variable.new.self.demands.items c.add_variable.ensures.kept.kept.solved
