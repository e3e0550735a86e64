use Rattle.std.proofs.lemmas.Result.{on_ok_weaker}
use Rattle.abc_terms.specs.declared.demand.Demand.TheVariants as demand
use Rattle.abc_scheme.proofs.Later.{later_then}
use Rattle.abc_check.proofs.Holding.{later_demand, held, never_equal, never_shaped}
use Rattle.abc_unify.proofs.Faults.{clash_told}
use Rattle.abc_check.proofs.values.hold_shape.Goals as goal

pub returns-clause-ok : goal.returns-clause-ok
returns-clause-ok c =
    on_ok_weaker c.equal.result
    (λ is. held c.args.name.now c.args.shape.now c.args.graph.now c.target_var.new.g c.shape_var.new.graph c.args.vars.now c.target_var.new.targets c.in_ok-target.target c.in_ok-a.a c.count-count.ensures.made c.in_ok-target.ensures.named c.equal.new.self c.in_ok-a.ensures.made is)
    c.equal.ensures.ok

pub returns-clause-later : goal.returns-clause-later
returns-clause-later c =
    later_demand c.equal.result c.args.graph.now c.shape_var.new.graph c.equal.new.self (demand.Equal c.in_ok-target.target c.in_ok-a.a) (later_then c.args.graph.now c.target_var.new.g c.shape_var.new.graph c.target_var.ensures.later c.shape_var.ensures.later) c.equal.ensures.ok c.equal.ensures.err

pub returns-clause-clash : goal.returns-clause-clash
returns-clause-clash c = λ e.
    never_equal c.args.name.now c.args.shape.now c.args.graph.now c.target_var.new.g c.shape_var.new.graph c.args.vars.now c.target_var.new.targets c.in_ok-target.target c.in_ok-a.a c.count-count.ensures.made c.in_ok-target.ensures.named c.in_ok-a.ensures.made
    (c.equal.ensures.clash e)

pub returns-in_err-a-clause-clash : goal.returns-in_err-a-clause-clash
returns-in_err-a-clause-clash c = λ e.
    never_shaped c.args.name.now c.args.shape.now c.args.graph.now c.target_var.new.g c.shape_var.new.graph c.args.vars.now c.target_var.new.targets c.in_ok-target.target c.in_ok-target.target c.count-count.ensures.made c.in_ok-target.ensures.named
    (c.shape_var.ensures.clash (clash_told c.shape_var.result c.from_residual-in_err-a.result c.in_err-a.field-0.0 c.in_err-a.was c.from_residual-in_err-a.ensures e))
