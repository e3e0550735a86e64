use Rattle.std.proofs.Common.{List, sym, subst}
use Rattle.std.specs.List.{All}
use Rattle.abc_terms.specs.declared.term.VarId.{VarId}
use Rattle.abc_terms.specs.Nodes.{AreIn}
use Rattle.abc_unify.specs.declared.forms.Known.{Known}
use Rattle.abc_unify.specs.Forms.{AreForms, IsKnown}
use Rattle.abc_scheme.proofs.scheme.Scheme.of.Goals as goal

pub kept-requires-clause-told : goal.kept-requires-clause-told
kept-requires-clause-told c =
    let g = c.args.g.now in
    let forms : AreForms g.count g.demands c.in_ok-all.all.items = c.in_ok-all.ensures.forms in
    (g.demands, subst (λ n. AreForms n g.demands c.deref.result.now) (sym c.count-variables.ensures.count) (subst (λ (es : List Known). AreForms g.count g.demands es) (sym c.deref.ensures.value) forms), c.count-variables.ensures.solvable)

pub kept-requires-clause-there : goal.kept-requires-clause-there
kept-requires-clause-there c = subst (λ (es : List Known). All (λ (a : VarId). IsKnown es a.0) c.args.wanted.now) (sym c.deref.ensures.value) c.in_ok-all.ensures.there

pub kept-requires-clause-made : goal.kept-requires-clause-made
kept-requires-clause-made c = subst (λ n. AreIn n c.args.wanted.now) (sym c.count-variables.ensures.count) c.requires

pub returns-clause-exact : goal.returns-clause-exact
returns-clause-exact c ts =
    let g = c.args.g.now in
    let forms : AreForms g.count g.demands c.in_ok-all.all.items = c.in_ok-all.ensures.forms in
    let here : AreForms c.count-variables.result g.demands c.deref.result.now = subst (λ n. AreForms n g.demands c.deref.result.now) (sym c.count-variables.ensures.count) (subst (λ (es : List Known). AreForms g.count g.demands es) (sym c.deref.ensures.value) forms) in
    c.in_ok-scheme.ensures.exact g.demands here c.count-variables.ensures.solvable ts
