use Rattle.std.proofs.Common.{◌∙◌, ◌-◌, ◌&&◌, ap, sym}
use Rattle.abc_state.specs.Views.{scope_of}
use Rattle.abc_pending.specs.AtOnce.{is_at_once}
use Rattle.abc_pending.proofs.AtOnce.{name_is, one_is, select_is, two_is}
use Rattle.abc_pending.proofs.at_once.+is_at_once.Goals as goal

pub is_at_once-returns-in-Name : goal.is_at_once-returns-in-Name
is_at_once-returns-in-Name t c = c.is_plain.ensures ∙ sym (name_is c.args.height (scope_of c.args.scope.now) c.args.e.now c.in-Name.i c.in-Name.is)

pub is_at_once-returns-then-height-gt0 : goal.is_at_once-returns-then-height-gt0
is_at_once-returns-then-height-gt0 t c =
    let scope = scope_of c.args.scope.now in
    c.is_at_once.ensures ∙ ap (is_at_once (c.args.height - 1) scope) c.get.ensures ∙ sym (one_is c.args.height scope c.args.e.now c.in-Apply1.x c.in-Apply1.field-0 c.in-Apply1.is c.if-height-gt0.true)

pub is_at_once-returns-then-height-gt0-2 : goal.is_at_once-returns-then-height-gt0-2
is_at_once-returns-then-height-gt0-2 t c =
    let scope = scope_of c.args.scope.now in
    let low = is_at_once (c.args.height - 1) scope in
    c.are_at_once.ensures ∙ ap (λ x. low x && low c.get-then-height-gt0-2-2.result.now) c.get-then-height-gt0-2.ensures ∙ ap (λ y. low c.in-Apply2.x && low y) c.get-then-height-gt0-2-2.ensures
    ∙ sym (two_is c.args.height scope c.args.e.now c.in-Apply2.x c.in-Apply2.y c.in-Apply2.field-0 c.in-Apply2.is c.if-height-gt0-2.true)

pub is_at_once-returns-then-height-gt0-3 : goal.is_at_once-returns-then-height-gt0-3
is_at_once-returns-then-height-gt0-3 t c =
    let scope = scope_of c.args.scope.now in
    let low = is_at_once (c.args.height - 1) scope in
    c.are_at_once-then-height-gt0-3.ensures ∙ ap (λ x. low x && low c.get-then-height-gt0-3-2.result.now) c.get-then-height-gt0-3.ensures ∙ ap (λ y. low c.in-Select.t && low y) c.get-then-height-gt0-3-2.ensures
    ∙ sym (select_is c.args.height scope c.args.e.now c.in-Select.t c.in-Select.k c.in-Select.is c.if-height-gt0-3.true)
