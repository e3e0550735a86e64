use Rattle.std.proofs.Common.{◌≡◌, length, sym, subst}
use Rattle.abc_unify.specs.Graphs.{Seen}
use Rattle.abc_unify.specs.inner.States.{IsSolved}
use Rattle.abc_unify.specs.Forms.{AreForms}
use Rattle.abc_unify.proofs.graph.Graph.forms.Goals as goal

pub returns-clause-forms : goal.returns-clause-forms
returns-clause-forms c =
    let s = c.self.inside.state in
    let value : c.as_slice.result.now ≡ s.slots.items = c.as_slice.ensures.value in
    let solved : IsSolved c.as_slice.result.now s.demands.items = subst (λ slots. IsSolved slots s.demands.items) (sym value) c.self.invariant.kept.solved in
    let here : AreForms (length s.slots.items) s.demands.items c.in_ok-all.all.items = subst (λ slots. AreForms (length slots) s.demands.items c.in_ok-all.all.items) value (c.in_ok-all.ensures.forms s.demands.items solved) in
    subst (λ (t : Seen). AreForms t.count t.demands c.in_ok-all.all.items) c.self.view_is here
