use Rattle.std.proofs.Common.{◌≡◌, ◌∙◌, length, sym, ap, subst, rules, arith}
use Rattle.abc_unify.specs.Graphs.{Seen, HasSolution}
use Rattle.abc_unify.proofs.Backward.{back_now}
use Rattle.abc_unify.proofs.Solved.{solved_has_solution}
use Rattle.abc_unify.proofs.Undoing.{earlier_length}
use Rattle.abc_unify.proofs.graph.Graph.undo.Goals as goal

pub returns-else-m-len : goal.returns-else-m-len
returns-else-m-len c =
    let len : c.len.result ≡ length c.self.inside.state.history.items = search rules in
    let calls : c.m.inside.calls ≡ c.args.m = c.m.view_is in
    let past : length c.args.self.now.past ≡ length c.self.inside.state.history.items = ap (λ (s : Seen). length s.past) (sym c.self.view_is) ∙ earlier_length c.self.inside.state.demands.items c.self.inside.state.history.items in
    record {
      back = back_now c.args.self.now c.args.m (omega (arith, c.requires, c.if-m-len.false, len, calls, past));
      solvable = subst (λ (s : Seen). HasSolution s.demands) c.self.view_is (solved_has_solution c.self.inside.state.slots.items c.self.inside.state.demands.items c.self.invariant.kept.solved);
    }

pub returns-then-m-len-clause-solvable : goal.returns-then-m-len-clause-solvable
returns-then-m-len-clause-solvable c = solved_has_solution c.go_back.new.self.slots.items c.go_back.new.self.demands.items c.go_back.ensures.kept.kept.solved
