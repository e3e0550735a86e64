use Rattle.std.proofs.Common.{◌≡◌, ◌-◌, ◌&&◌, true, sym, subst}
use Rattle.abc_meaning.specs.Meaning.{meaning}
use Rattle.abc_state.specs.Views.{at, scope_of, state_of}
use Rattle.abc_pending.specs.AtOnce.{Tells, both, is_at_once}
use Rattle.abc_pending.proofs.AtOnce.{name_at_once, one_tells, operand_at_once, operands_at_once, select_tells, selection_at_once, two_tell}
use Rattle.abc_pending.proofs.at_once.+value_found.Goals as goal

pub node_found-returns-in-Name-clause-found : goal.node_found-returns-in-Name-clause-found
node_found-returns-in-Name-clause-found t c = λ height told.
    c.value_of_name.ensures.found (name_at_once height (scope_of c.args.scope.now) c.args.e.now c.args.e.now c.args.e.now told c.in-Name.i c.in-Name.is)

pub node_found-returns-in-Apply1-clause-tells : goal.node_found-returns-in-Apply1-clause-tells
node_found-returns-in-Apply1-clause-tells t c = λ units lines ended.
    let here = at (scope_of c.args.scope.now) c.args.place.line in
    let s = state_of c.args.run.now c.args.targets.now lines ended in
    let deep = meaning units c.args.place.levels in
    one_tells units deep here c.applied_to_found.result s c.args.e.now c.in-Apply1.x c.in-Apply1.x c.in-Apply1.op c.in-Apply1.is
    (c.applied_to_found.ensures.tells here s (deep.value here c.in-Apply1.x s)
    (subst (λ x. Tells (λ v. v) here.line c.value_found.result s (deep.value here x s)) c.get.ensures (c.value_found.ensures.tells units lines ended)))

pub node_found-returns-in-Apply1-clause-found : goal.node_found-returns-in-Apply1-clause-found
node_found-returns-in-Apply1-clause-found t c = λ height told.
    let scope = scope_of c.args.scope.now in
    c.applied_to_found.ensures.found (c.value_found.ensures.found (height - 1)
    (subst (λ x. is_at_once (height - 1) scope x ≡ true) (sym c.get.ensures) (operand_at_once height scope c.args.e.now c.in-Apply1.x c.in-Apply1.x told c.in-Apply1.op c.in-Apply1.is)))

pub node_found-returns-in-Apply2-clause-tells : goal.node_found-returns-in-Apply2-clause-tells
node_found-returns-in-Apply2-clause-tells t c = λ units lines ended.
    let here = at (scope_of c.args.scope.now) c.args.place.line in
    let s = state_of c.args.run.now c.args.targets.now lines ended in
    let deep = meaning units c.args.place.levels in
    two_tell units deep here c.applied_found.result s c.args.e.now c.in-Apply2.x c.in-Apply2.y c.in-Apply2.op c.in-Apply2.is
    (c.applied_found.ensures.tells here s (both deep here c.in-Apply2.x c.in-Apply2.y s)
    (subst (λ y. Tells (λ p. p) here.line c.both_found.result s (both deep here c.in-Apply2.x y s)) c.get-in-Apply2-2.ensures
    (subst (λ x. Tells (λ p. p) here.line c.both_found.result s (both deep here x c.get-in-Apply2-2.result.now s)) c.get-in-Apply2.ensures (c.both_found.ensures.tells units lines ended))))

pub node_found-returns-in-Apply2-clause-found : goal.node_found-returns-in-Apply2-clause-found
node_found-returns-in-Apply2-clause-found t c = λ height told.
    let low = is_at_once (height - 1) (scope_of c.args.scope.now) in
    c.applied_found.ensures.found (c.both_found.ensures.found (height - 1)
    (subst (λ y. (low c.get-in-Apply2.result.now && low y) ≡ true) (sym c.get-in-Apply2-2.ensures)
    (subst (λ x. (low x && low c.in-Apply2.y) ≡ true) (sym c.get-in-Apply2.ensures) (operands_at_once height (scope_of c.args.scope.now) c.args.e.now c.in-Apply2.x c.in-Apply2.y told c.in-Apply2.op c.in-Apply2.is))))

pub node_found-returns-in-Select-clause-tells : goal.node_found-returns-in-Select-clause-tells
node_found-returns-in-Select-clause-tells t c = λ units lines ended.
    let here = at (scope_of c.args.scope.now) c.args.place.line in
    let s = state_of c.args.run.now c.args.targets.now lines ended in
    let deep = meaning units c.args.place.levels in
    select_tells units deep here c.selected_found.result s c.args.e.now c.in-Select.t c.in-Select.k c.in-Select.is
    (c.selected_found.ensures.tells here s (both deep here c.in-Select.t c.in-Select.k s)
    (subst (λ y. Tells (λ p. p) here.line c.both_found-in-Select.result s (both deep here c.in-Select.t y s)) c.get-in-Select-2.ensures
    (subst (λ x. Tells (λ p. p) here.line c.both_found-in-Select.result s (both deep here x c.get-in-Select-2.result.now s)) c.get-in-Select.ensures (c.both_found-in-Select.ensures.tells units lines ended))))

pub node_found-returns-in-Select-clause-found : goal.node_found-returns-in-Select-clause-found
node_found-returns-in-Select-clause-found t c = λ height told.
    let low = is_at_once (height - 1) (scope_of c.args.scope.now) in
    c.selected_found.ensures.found (c.both_found-in-Select.ensures.found (height - 1)
    (subst (λ y. (low c.get-in-Select.result.now && low y) ≡ true) (sym c.get-in-Select-2.ensures)
    (subst (λ x. (low x && low c.in-Select.k) ≡ true) (sym c.get-in-Select.ensures) (selection_at_once height (scope_of c.args.scope.now) c.args.e.now c.in-Select.t c.in-Select.k told c.in-Select.is))))
