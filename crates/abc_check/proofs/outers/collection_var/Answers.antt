use Rattle.abc_check.proofs.KindVars.{collection_made, no_collection}
use Rattle.abc_unify.proofs.Faults.{clash_told}
use Rattle.abc_check.proofs.outers.collection_var.Goals as goal

pub returns-clause-made : goal.returns-clause-made
returns-clause-made c =
    collection_made c.args.graph.now c.fresh_var.new.graph c.fresh_var-2.new.graph c.in_ok-a.a c.in_ok-element.element c.count-count.ensures.made c.in_ok-a.ensures.number c.in_ok-a.ensures.ok c.in_ok-element.ensures.number c.in_ok-element.ensures.ok
    c.collection.new.self c.in_ok-collection.ensures.ok

pub returns-in_err-collection-clause-clash : goal.returns-in_err-collection-clause-clash
returns-in_err-collection-clause-clash c = λ e.
    no_collection c.args.graph.now c.fresh_var.new.graph c.fresh_var-2.new.graph c.in_ok-a.a c.in_ok-element.element c.count-count.ensures.made c.in_ok-a.ensures.number c.in_ok-a.ensures.ok c.in_ok-element.ensures.number c.in_ok-element.ensures.ok
    (c.collection.ensures.clash (clash_told c.collection.result c.from_residual-in_err-collection.result c.in_err-collection.field-0.0 c.in_err-collection.was c.from_residual-in_err-collection.ensures e))
