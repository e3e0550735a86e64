use Rattle.abc_check.proofs.Answering.{if_ok_both}
use Rattle.abc_check.proofs.KindVars.{text_made}
use Rattle.abc_check.proofs.outers.text_var.Goals as goal

pub returns-clause-made : goal.returns-clause-made
returns-clause-made c =
    if_ok_both c.node_var.result c.node_var.ensures.number c.node_var.ensures.ok
    (λ a number is. text_made c.args.graph.now c.node_var.new.graph a c.count-count.ensures.made number is)
