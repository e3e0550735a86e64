use Rattle.std.proofs.Common.{◌≡◌, length, sym, subst}
use Rattle.abc_unify.specs.Graphs.{Seen}
use Rattle.abc_unify.specs.inner.States.{IsSolved}
use Rattle.abc_unify.specs.Forms.{IsForm}
use Rattle.abc_unify.proofs.graph.Graph.form.Goals as goal

pub returns : goal.returns
returns c =
    let s = c.self.inside.state in
    let value : c.as_slice.result.now ≡ s.slots.items = c.as_slice.ensures.value in
    let solved : IsSolved c.as_slice.result.now s.demands.items = subst (λ slots. IsSolved slots s.demands.items) (sym value) c.self.invariant.kept.solved in
    let here : IsForm (length s.slots.items) s.demands.items c.args.a.0 c.in_ok-form.form = subst (λ slots. IsForm (length slots) s.demands.items c.args.a.0 c.in_ok-form.form) value (c.in_ok-form.ensures s.demands.items solved) in
    subst (λ (t : Seen). IsForm t.count t.demands c.args.a.0 c.in_ok-form.form) c.self.view_is here
