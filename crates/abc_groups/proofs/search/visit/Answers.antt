use Rattle.std.proofs.Common.{arith, length, ◌<◌, ◌≡◌, [], ap, sym, ◌∙◌, vec_len, rules}
use Rattle.abc_groups.proofs.Classing.{state_begin, state_take, state_push, state_merge, state_end, lighter_take, lighter_push, top_in}
use Rattle.abc_groups.proofs.search.visit.Goals as goal

pub loop-start-init : goal.loop-start-init
loop-start-init c =
    rw (c.in_ok-push.ensures.items, c.in_ok-push-2.ensures.items, c.new-path.ensures.items, c.new-starts.ensures.items)
    (state_begin _ _ _ _ _ c.requires.idle c.requires.classes c.requires.root c.requires.new)

pub open_call-requires-clause-start : goal.open_call-requires-clause-start
open_call-requires-clause-start c =
    let st = rw c.in-Some.ensures.items at c.loop-start.invariant in
    let h : c.in-Some.start < length c.loop-start.path.items = top_in _ _ _ _ _ _ _ _ _ st in
    omega (arith, c.as_slice.type_inv.1, ap length c.as_slice.ensures.value)

pub take_top-requires-clause-start : goal.take_top-requires-clause-start
take_top-requires-clause-start c =
    let st = rw c.in-Some.ensures.items at c.loop-start.invariant in
    let h : c.in-Some.start < length c.loop-start.path.items = top_in _ _ _ _ _ _ _ _ _ st in
    omega arith

pub loop-start-smaller-in-Continue-branch-4 : goal.loop-start-smaller-in-Continue-branch-4
loop-start-smaller-in-Continue-branch-4 c =
    let st = rw c.in-Some.ensures.items at c.loop-start.invariant in
    rw c.in-Some.ensures.items (lighter_take _ _ _ _ _ _ _ _ _ st _ _ _ c.in_ok-take_top-in-None.ensures)

pub loop-start-preserved-in-Continue-branch-4 : goal.loop-start-preserved-in-Continue-branch-4
loop-start-preserved-in-Continue-branch-4 c =
    let st = rw c.in-Some.ensures.items at c.loop-start.invariant in
    rw (c.in_ok-push-in-None.ensures.items, c.from_vec.ensures) (state_take _ _ _ _ _ _ _ _ _ st _ _ _ c.in_ok-take_top-in-None.ensures (rw c.as_slice.ensures.value at c.in-None.ensures.none))

pub loop-start-smaller-in-Continue-branch-7 : goal.loop-start-smaller-in-Continue-branch-7
loop-start-smaller-in-Continue-branch-7 c =
    let st = rw c.in-Some.ensures.items at c.loop-start.invariant in
    let e : vec_len c.loop-start.path ≡ length c.loop-start.path.items = sym c.as_slice.ensures.len ∙ ap length c.as_slice.ensures.value in
    rw (c.in-Some.ensures.items, c.in_ok-push-in-Some-open_call-2.ensures.items, c.in_ok-push-in-Some-open_call.ensures.items, c.len-then-marks-y-eq0.ensures, c.len.ensures, e)
    (lighter_push _ _ _ _ _ _ _ _ _ st _ c.in-Some-open_call.ensures.some.0 c.if-marks-y-eq0.true)

pub loop-start-preserved-in-Continue-branch-7 : goal.loop-start-preserved-in-Continue-branch-7
loop-start-preserved-in-Continue-branch-7 c =
    let st = rw c.in-Some.ensures.items at c.loop-start.invariant in
    let call = rw c.as_slice.ensures.value at c.in-Some-open_call.ensures.some.2 in
    let e : vec_len c.loop-start.path ≡ length c.loop-start.path.items = sym c.as_slice.ensures.len ∙ ap length c.as_slice.ensures.value in
    rw (c.in_ok-push-in-Some-open_call-3.ensures.items, c.in_ok-push-in-Some-open_call-2.ensures.items, c.in_ok-push-in-Some-open_call.ensures.items, c.len-then-marks-y-eq0.ensures, c.len.ensures, e)
    (state_push _ _ _ _ _ _ _ _ _ st _ c.in-Some-open_call.ensures.some.0 c.if-marks-y-eq0.true call)

pub loop-start-preserved : goal.loop-start-preserved
loop-start-preserved c =
    let st = rw c.in-Some.ensures.items at c.loop-start.invariant in
    let call = rw c.as_slice.ensures.value at c.in-Some-open_call.ensures.some.2 in
    state_merge _ _ _ _ _ _ _ _ _ st _ c.if-marks-y-eq0.false c.in-Some-open_call.ensures.some.1 call

pub returns-clause-idle : goal.returns-clause-idle
returns-clause-idle c =
    let e : c.loop-start.starts.items ≡ [] = search rules in
    (state_end _ _ _ _ _ _ _ (rw e at c.loop-start.invariant)).0

pub returns-clause-root : goal.returns-clause-root
returns-clause-root c =
    let e : c.loop-start.starts.items ≡ [] = search rules in
    (state_end _ _ _ _ _ _ _ (rw e at c.loop-start.invariant)).1
