use Rattle.std.proofs.Common.{take}
use Rattle.abc_scheme.proofs.Later.{later_then}
use Rattle.abc_check.proofs.OwnValues.{asked_next, all_asked, never_next, behind_then}
use Rattle.abc_unify.proofs.Faults.{clash_told}
use Rattle.abc_check.proofs.values.hold_values.Goals as goal

pub returns-in_err-hold_named-clause-clash : goal.returns-in_err-hold_named-clause-clash
returns-in_err-hold_named-clause-clash c = λ e w asked typable.
    let i = c.loop-number.number in
    never_next c.args.targets.now i c.in_ok-names.names c.in-Some.name.now c.len-rising.ensures.rising c.in_ok-names.ensures.names c.in-Some.ensures w
    (λ value at types are. c.hold_named.ensures.clash (clash_told c.hold_named.result c.from_residual-in_err-hold_named.result c.in_err-hold_named.field-0.0 c.in_err-hold_named.was c.from_residual-in_err-hold_named.ensures e) value at (take i c.args.targets.now) w (c.loop-number.invariant.asked w asked) types are) typable

pub returns-in_err-hold_named-clause-later : goal.returns-in_err-hold_named-clause-later
returns-in_err-hold_named-clause-later c = later_then c.args.graph.now c.loop-number.graph c.hold_named.new.graph c.loop-number.invariant.later c.hold_named.ensures.later

pub returns-in_default-clause-ok : goal.returns-in_default-clause-ok
returns-in_default-clause-ok c = λ w asked.
    all_asked c.args.targets.now c.loop-number.number c.in_ok-names.names w c.loop-number.graph.demands c.loop-number.vars c.in_ok-names.ensures.names c.in_default.ensures (c.loop-number.invariant.asked w asked)

pub loop-number-preserved : goal.loop-number-preserved
loop-number-preserved c = record {
  made = c.in_ok-hold_named.ensures.made;
  later = later_then c.args.graph.now c.loop-number.graph c.hold_named.new.graph c.loop-number.invariant.later c.hold_named.ensures.later;
  behind = behind_then c.args.vars.now c.loop-number.vars c.hold_named.new.vars c.loop-number.invariant.behind c.hold_named.ensures.behind;
  asked = λ w asked.
      let i = c.loop-number.number in
      asked_next c.args.targets.now i c.in_ok-names.names c.in-Some.name.now c.len-rising.ensures.rising c.in_ok-names.ensures.names c.in-Some.ensures w c.hold_named.new.graph.demands c.hold_named.new.vars
      (λ value at. c.in_ok-hold_named.ensures.ok value at (take i c.args.targets.now) w (c.loop-number.invariant.asked w asked));
}
