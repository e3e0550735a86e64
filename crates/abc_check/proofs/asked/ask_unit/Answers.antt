use Rattle.std.proofs.Common.{◌∙◌}
use Rattle.abc_principal.specs.Exact.{cut_in}
use Rattle.abc_check.proofs.Instances.{one_asked, none_asked_more}
use Rattle.abc_unify.proofs.Faults.{clash_told}
use Rattle.abc_check.proofs.asked.ask_unit.Goals as goal

pub returns-in-Some-clause-ok : goal.returns-in-Some-clause-ok
returns-in-Some-clause-ok c = λ w cs knows own asked.
    one_asked w cs (cut_in c.args.member.now) c.args.known.now c.from_vec-text.result c.in-Some.principal.now c.args.asked.now.graph c.instance.new.g c.args.asked.now.targets c.instance.new.targets
    (c.from_vec-text.ensures ∙ c.in_ok-text.ensures) c.in-Some.ensures.found knows own asked c.in_ok-instance-in-Some.field-0 c.in_ok-instance-in-Some.ensures.ok

pub returns-in_err-instance-in-Some-clause-clash : goal.returns-in_err-instance-in-Some-clause-clash
returns-in_err-instance-in-Some-clause-clash c = λ e w cs knows own asked.
    none_asked_more w cs (cut_in c.args.member.now) c.args.known.now c.from_vec-text.result c.in-Some.principal.now c.args.asked.now.graph c.args.asked.now.targets
    (c.from_vec-text.ensures ∙ c.in_ok-text.ensures) c.in-Some.ensures.found knows own asked (c.instance.ensures.clash (clash_told c.instance.result c.from_residual-in_err-instance-in-Some.result c.in_err-instance-in-Some.field-0.0 c.in_err-instance-in-Some.was c.from_residual-in_err-instance-in-Some.ensures e))
