use Rattle.std.proofs.Common.{◌∙◌, ◌-◌, ◌&&◌, ap, sym}
use Rattle.abc_state.specs.Views.{scope_of}
use Rattle.abc_pending.specs.AtOnce.{is_address_at_once, is_at_once}
use Rattle.abc_pending.specs.declared.at_once.TheConstants.{HEIGHT_AT_ONCE}
use Rattle.abc_pending.proofs.Addresses.{part_is}
use Rattle.abc_pending.proofs.addressed.+is_address_at_once.Goals as goal

pub is_address_at_once-returns-then-height-gt0 : goal.is_address_at_once-returns-then-height-gt0
is_address_at_once-returns-then-height-gt0 t c =
    let scope = scope_of c.args.scope.now in
    let low = is_address_at_once (c.args.height - 1) scope in
    c.is_part_at_once.ensures ∙ ap (λ k. is_at_once HEIGHT_AT_ONCE scope k && low c.get.result.now) c.get-then-height-gt0.ensures ∙ ap (λ t. is_at_once HEIGHT_AT_ONCE scope c.in-Select.k && low t) c.get.ensures
    ∙ sym (part_is c.args.height scope c.args.e.now c.in-Select.t c.in-Select.k c.in-Select.is c.if-height-gt0.true)
