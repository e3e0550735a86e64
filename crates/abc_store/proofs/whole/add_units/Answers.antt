use Rattle.std.proofs.Common.{rules, ◌≡◌, ◌≤◌, ◌∙◌, length, Some, None, option_map, slice_get, sym, ap}
use Rattle.abc_store.proofs.Units.{one_told, all_told, none_left}
use Rattle.abc_store.proofs.whole.add_units.Goals as goal

pub returns-in-None : goal.returns-in-None
returns-in-None c =
    let none : slice_get c.args.units.now c.loop-at.at ≡ None = sym c.at.ensures.unit ∙ ap (option_map (λ unit. unit.now)) c.in-None.is in
    record { all = all_told c.loop-at.all.items c.args.all.now.items c.args.units.now c.loop-at.at c.loop-at.invariant (none_left c.args.units.now c.loop-at.at none) }

pub loop-at-preserved : goal.loop-at-preserved
loop-at-preserved c =
    let here : slice_get c.args.units.now c.loop-at.at ≡ Some c.in-Some.unit.now = sym c.at.ensures.unit ∙ ap (option_map (λ unit. unit.now)) c.in-Some.is in
    one_told c.loop-at.all.items c.args.all.now.items c.add_unit.new.all.items c.args.units.now c.loop-at.at c.in-Some.unit.now c.loop-at.invariant here c.in_ok-add_unit-in-Some.ensures

pub returns : goal.returns
returns c =
    let most : length c.args.units.now ≤ c.loop-at.at = search rules in
    record { all = all_told c.loop-at.all.items c.args.all.now.items c.args.units.now c.loop-at.at c.loop-at.invariant most }
