use Rattle.std.proofs.Common.{◌≡◌, ◌∙◌, map, ap, arith}
use Rattle.std.proofs.lemmas.List.{take_all}
use Rattle.abc_terms.specs.declared.term.Term.TheVariants as term
use Rattle.abc_terms.proofs.Terms.{compound_node}
use Rattle.abc_terms.proofs.term.Term.compound_of.Goals as goal

pub returns-clause-node : goal.returns-clause-node
returns-clause-node c n inside =
    let terms : c.loop-i.terms ≡ map term.Var c.args.fields.now = c.loop-i.invariant ∙ ap (map term.Var) (take_all c.loop-i.i c.args.fields.now (omega arith)) in
    rw terms (compound_node n c.args.fields.now c.requires inside)
