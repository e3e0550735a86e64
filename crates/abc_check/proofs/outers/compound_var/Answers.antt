use Rattle.abc_check.proofs.Answering.{if_ok_both}
use Rattle.abc_check.proofs.KindVars.{compound_made, no_compound}
use Rattle.abc_check.proofs.outers.compound_var.Goals as goal

pub returns-then-parts-lt2-clause-clash : goal.returns-then-parts-lt2-clause-clash
returns-then-parts-lt2-clause-clash c = λ e. no_compound c.args.parts.now c.args.graph.now c.if-parts-lt2.true

pub returns-clause-made : goal.returns-clause-made
returns-clause-made c =
    if_ok_both c.node_var.result c.node_var.ensures.number c.node_var.ensures.ok
    (λ a number is.
    compound_made c.args.graph.now c.node_var.new.graph a c.count-count.ensures.made number c.args.parts.now c.in_ok-term.term (c.in_ok-term.ensures.node c.args.graph.now.count c.requires) is c.in_ok-term.ensures.term)
