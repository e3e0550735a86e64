use Rattle.std.proofs.Common.{◌∙◌}
use Rattle.abc_scheme.proofs.Later.{later_then}
use Rattle.abc_check.proofs.Accepting.{accepted, refuted, uncalled}
use Rattle.abc_check.proofs.Answering.{if_ok_both}
use Rattle.abc_unify.proofs.Faults.{clash_told}
use Rattle.abc_check.proofs.asking.ask.Goals as goal

pub returns-clause-ok : goal.returns-clause-ok
returns-clause-ok c =
    if_ok_both c.demand.result c.demand.ensures.ok c.demand.ensures.given
    (λ _ demanded given values w knows spelled asked.
    accepted c.args.known.now values w c.args.command.now c.args.upto knows spelled c.args.graph.now c.call_signatures.new.g c.args.targets.now c.call_signatures.new.targets c.deref.result.now c.in_ok-calls.calls.items
    asked c.in_ok-calls.ensures.ok (c.deref.ensures.value ∙ c.in_ok-templates.ensures) c.demand.new.graph c.demand.new.targets demanded given c.demand.ensures.solvable)

pub returns-clause-later : goal.returns-clause-later
returns-clause-later c = later_then c.args.graph.now c.call_signatures.new.g c.demand.new.graph c.call_signatures.ensures.later c.demand.ensures.later

pub returns-clause-clash : goal.returns-clause-clash
returns-clause-clash c = λ e values w knows spelled asked.
    refuted c.args.known.now values w c.args.command.now c.args.upto knows spelled c.args.graph.now c.call_signatures.new.g c.args.targets.now c.call_signatures.new.targets c.deref.result.now c.in_ok-calls.calls.items
    asked c.in_ok-calls.ensures.ok (c.deref.ensures.value ∙ c.in_ok-templates.ensures) (c.demand.ensures.clash e)

pub returns-in_err-calls-clause-clash : goal.returns-in_err-calls-clause-clash
returns-in_err-calls-clause-clash c = λ e values w knows spelled asked.
    uncalled c.args.known.now values w c.args.command.now c.args.upto knows spelled c.args.graph.now c.args.targets.now c.deref.result.now
    asked (c.deref.ensures.value ∙ c.in_ok-templates.ensures) (c.call_signatures.ensures.clash (clash_told c.call_signatures.result c.from_residual-in_err-calls.result c.in_err-calls.field-0.0 c.in_err-calls.was c.from_residual-in_err-calls.ensures e))
