use Rattle.std.proofs.Common.{List, take, subst}
use Rattle.abc_ground.specs.Groups.{Cut}
use Rattle.abc_principal.specs.Exact.{cuts_of}
use Rattle.abc_check.specs.inner.Asked.{SomeAsked}
use Rattle.abc_check.proofs.Instances.{cuts_next, found_next, some_next}
use Rattle.abc_unify.proofs.Faults.{clash_told}
use Rattle.abc_check.proofs.asked.asked_units.Goals as goal

pub returns-in_err-ask_unit-clause-clash : goal.returns-in_err-ask_unit-clause-clash
returns-in_err-ask_unit-clause-clash c = λ e knows targets proper some.
    let ms = c.args.members.now in
    let i = c.loop-member.member-index in
    let m = c.member-item.result in
    c.ask_unit.ensures.clash (clash_told c.ask_unit.result c.from_residual.result c.in_err-ask_unit.field-0.0 c.in_err-ask_unit.was c.from_residual.ensures e) (cuts_of ms) (cuts_of (take i ms)) knows (found_next ms i m c.loop-member-test.true c.member-item.is c.requires)
    (c.loop-member.invariant.asked knows) targets proper (some_next ms i m c.loop-member-test.true c.member-item.is (cuts_of ms) targets some)

pub loop-member-preserved : goal.loop-member-preserved
loop-member-preserved c =
    let ms = c.args.members.now in
    let i = c.loop-member.member-index in
    let m = c.member-item.result in
    record {
      made = c.in_ok-ask_unit.ensures.made;
      asked = λ knows.
          subst (λ (cs : List Cut). SomeAsked (cuts_of ms) cs c.ask_unit.new.asked.graph.demands c.ask_unit.new.asked.targets) (cuts_next ms i m c.loop-member-test.true c.member-item.is)
          (c.in_ok-ask_unit.ensures.ok (cuts_of ms) (cuts_of (take i ms)) knows (found_next ms i m c.loop-member-test.true c.member-item.is c.requires) (c.loop-member.invariant.asked knows));
    }
