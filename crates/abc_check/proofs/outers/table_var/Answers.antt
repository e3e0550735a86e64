use Rattle.std.proofs.Common.{get_or, arith}
use Rattle.std.proofs.lemmas.List.{get_or_default}
use Rattle.abc_terms.specs.declared.term.VarId.{VarId}
use Rattle.abc_check.proofs.Answering.{if_ok_both}
use Rattle.abc_check.proofs.KindVars.{table_made}
use Rattle.abc_check.proofs.outers.table_var.Goals as goal

pub returns-clause-made : goal.returns-clause-made
returns-clause-made c =
    let parts = c.args.parts.now in
    let n = c.args.graph.now.count in
    let two = c.if-parts-ne2.false in
    let none : VarId = record { 0 = 0 } in
    let k : VarId = get_or parts 0 none in
    let e : VarId = get_or parts 1 none in
    if_ok_both c.node_var.result c.node_var.ensures.number c.node_var.ensures.ok
    (λ a number is.
    table_made c.args.graph.now c.node_var.new.graph a c.count-count.ensures.made number parts c.in_ok-term.term
    (c.in_ok-term.ensures.node n (c.requires 0 none (omega (arith, two))) (c.requires 1 none (omega (arith, two)))) is
    k e two (get_or_default parts 0 none k (omega (arith, two))) (get_or_default parts 1 none e (omega (arith, two))) c.in_ok-term.ensures.term)
