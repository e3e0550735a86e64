use Rattle.std.proofs.Common.{◌≡◌, ◌∙◌, length, sym, subst, rules}
use Rattle.abc_unify.specs.Graphs.{Seen}
use Rattle.abc_unify.proofs.Undoing.{earlier_length}
use Rattle.abc_unify.proofs.graph.Graph.mark.Goals as goal

pub returns : goal.returns
returns c =
    let len : c.len.result ≡ length c.self.inside.state.history.items = search rules in
    subst (λ (s : Seen). c.len.result ≡ length s.past) c.self.view_is (len ∙ sym (earlier_length c.self.inside.state.demands.items c.self.inside.state.history.items))
