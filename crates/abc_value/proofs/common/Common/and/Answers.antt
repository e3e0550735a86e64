use Rattle.std.proofs.Common.{◌≡◌, ◌++◌, arith}
use Rattle.std.specs.List.{between}
use Rattle.abc_value.specs.inner.Keeps.{kept_form, column}
use Rattle.abc_value.proofs.kept_forms.KeepingSteps.{start_between, turn_between, count_between, ended_between}
use Rattle.abc_value.proofs.common.Common.and.Goals as goal

pub loop-i-init : goal.loop-i-init
loop-i-init c = λ ts count k. start_between (kept_form c.args.self) c.args.self.whole ts (column c.args.all.now) c.args.from k

pub loop-i-preserved : goal.loop-i-preserved
loop-i-preserved c = λ ts count k.
    let xs = column c.args.all.now in
    let i = c.loop-i.i in
    let from = c.args.from in
    let more = c.in_ok-common.ensures (ts ++ between from i xs) (count_between ts xs from i c.args.others count (omega (arith, c.requires.to))) (c.loop-i.invariant ts count k) in
    turn_between (kept_form c.in_ok-common.common) c.in_ok-common.common.whole c.at.result.now ts xs from i (omega arith) (omega (arith, c.requires.to)) c.at.ensures more

pub returns : goal.returns
returns c = λ ts count k.
    let end : c.loop-i.i ≡ c.args.to = omega (arith, c.loop-i.auto.i-end c.requires.from, c.loop-i-test.false) in
    ended_between (kept_form c.loop-i.common) c.loop-i.common.whole ts (column c.args.all.now) c.args.from c.loop-i.i c.args.to end (c.loop-i.invariant ts count k)
