use Rattle.std.proofs.Common.{◌+◌, ◌-◌, ◌/◌, arith, sym, ap, ◌∙◌}
use Rattle.std.specs.Option.{option_map}
use Rattle.abc_value.specs.Items.{elements_of}
use Rattle.abc_predef.specs.inner.Places.{is_on}
use Rattle.abc_value.proofs.trees.Itemised.{elements_count}
use Rattle.abc_predef.proofs.Elements.{list_is_train, list_part_there, list_part_is, list_elements}
use Rattle.abc_predef.proofs.Halves.{between_all, move_low, move_high, halves_met}
use Rattle.abc_predef.proofs.Ends.{front_met}
use Rattle.abc_predef.proofs.trains.count_on.Goals as goal

pub loop-low-init : goal.loop-low-init
loop-low-init c = between_all c.args.side c.args.e.now (elements_of c.args.t.now) c.len-high.result (c.len-high.ensures.length ∙ elements_count c.args.t.now (list_is_train c.args.t.now c.requires))

pub unreachable-requires : goal.unreachable-requires
unreachable-requires c =
    list_part_there c.args.t.now (c.loop-low.low + (c.loop-low.high - c.loop-low.low) / 2) c.requires (omega (arith, c.loop-low.invariant.within, c.loop-low-test.true))
    (sym c.part.ensures ∙ ap (option_map (λ v. v.now)) c.in_default.is)

pub loop-low-preserved-then-is_on : goal.loop-low-preserved-then-is_on
loop-low-preserved-then-is_on c =
    let m = c.loop-low.low + (c.loop-low.high - c.loop-low.low) / 2 in
    let parts = list_elements c.args.t.now c.requires c.len-high.ensures.regular in
    move_low c.args.side c.args.e.now (elements_of c.args.t.now) c.loop-low.low c.loop-low.high m c.in-Some.part.now
    parts.1 parts.0 c.cmp.ensures.regular.1 c.loop-low.invariant (omega arith) (omega arith)
    (list_part_is c.args.t.now m c.in-Some.part.now c.args.e.now c.requires (sym c.part.ensures ∙ ap (option_map (λ v. v.now)) c.in-Some.is))
    (ap (λ o. is_on c.args.side o) (sym c.cmp.ensures.order) ∙ sym c.is_on.ensures ∙ c.if-is_on.true)

pub loop-low-preserved : goal.loop-low-preserved
loop-low-preserved c =
    let m = c.loop-low.low + (c.loop-low.high - c.loop-low.low) / 2 in
    let parts = list_elements c.args.t.now c.requires c.len-high.ensures.regular in
    move_high c.args.side c.args.e.now (elements_of c.args.t.now) c.loop-low.low c.loop-low.high m c.in-Some.part.now
    parts.1 parts.0 c.cmp.ensures.regular.1 c.loop-low.invariant (omega arith) (omega arith)
    (list_part_is c.args.t.now m c.in-Some.part.now c.args.e.now c.requires (sym c.part.ensures ∙ ap (option_map (λ v. v.now)) c.in-Some.is))
    (ap (λ o. is_on c.args.side o) (sym c.cmp.ensures.order) ∙ sym c.is_on.ensures ∙ c.if-is_on.false)

pub returns-clause-count : goal.returns-clause-count
returns-clause-count c = halves_met c.args.side c.args.e.now (elements_of c.args.t.now) c.loop-low.low c.loop-low.high c.loop-low.invariant (omega arith)

pub returns-clause-front : goal.returns-clause-front
returns-clause-front c = front_met c.args.side c.args.e.now c.args.t.now c.loop-low.low c.loop-low.high c.loop-low.invariant (omega arith)
