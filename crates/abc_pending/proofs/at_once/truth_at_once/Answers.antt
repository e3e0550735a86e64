use Rattle.std.proofs.Common.{◌∙◌, ◌-◌, sym, subst}
use Rattle.abc_tree.specs.declared.formulas.Test.{out-Test}
use Rattle.abc_meaning.specs.Meaning.{meaning}
use Rattle.abc_state.specs.Views.{at, scope_of, state_of}
use Rattle.abc_pending.specs.AtOnce.{Tells, both}
use Rattle.abc_pending.proofs.AtOnce.{row_of, test_holds}
use Rattle.abc_pending.proofs.Levels.{meaning_holds}
use Rattle.abc_pending.proofs.at_once.truth_at_once.Goals as goal

pub returns-clause-tells : goal.returns-clause-tells
returns-clause-tells c = λ units lines ended.
    let s = state_of c.args.run.now c.args.targets.now lines ended in
    let here = at (scope_of c.args.scope.now) c.args.place.line in
    let deep = meaning units (c.args.place.levels - 1) in
    subst (Tells (λ b. b) here.line c.compared_found.result s)
    (sym (meaning_holds units c.args.place.levels here c.args.test.now s c.if-place-eq0.false
    ∙ test_holds units deep here s (out-Test c.args.test.now) (row_of c.in-Some.op c.in-Some.x.now c.in-Some.y.now) c.in-Some.ensures.some))
    (c.compared_found.ensures.tells here s (both deep here c.in-Some.x.now c.in-Some.y.now s) (c.both_found.ensures.tells units lines ended))
