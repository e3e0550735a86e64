use Rattle.std.proofs.Common.{◌≡◌, ◌+◌, ◌<◌, ◌++◌, [], Some, None, length, drop, slice_get, sym, arith, rules}
use Rattle.std.proofs.lemmas.Option.{slice_get_within}
use Rattle.std.proofs.lemmas.Result.{err_from_is_err_and}
use Rattle.std.specs.List.{flat_map}
use Rattle.abc_value.proofs.printed.Appending.{says, goes_on, ends, refused}
use Rattle.abc_inquiry.specs.Inquiry.{shown_unit}
use Rattle.abc_inquiry.proofs.Showing.{found_shown, none_shown}
use Rattle.abc_inquiry.proofs.writing.add_templates.Goals as goal

pub units-smaller : goal.units-smaller
units-smaller c =
    let h : c.units.place < length c.args.units.now = slice_get_within c.args.units.now c.units.place c.in-Some.unit.now (sym c.in-Some.ensures.unit) in
    omega (arith, h)

pub returns-in_err-add_template : goal.returns-in_err-add_template
returns-in_err-add_template c =
    let p = err_from_is_err_and c.from_residual.result c.from_residual.ensures.1 in
    let before = c.args.bytes.now.items in
    let all = flat_map shown_unit c.args.units.now in
    let piece = shown_unit c.in-Some.unit.now in
    let rest = flat_map shown_unit (drop (c.units.place + 1) c.args.units.now) in
    let going = says before all c.units.bytes.items _ (piece ++ rest) c.args.most c.units.invariant (found_shown shown_unit c.args.units.now c.units.place c.in-Some.unit.now (sym c.in-Some.ensures.unit)) in
    refused before all c.units.bytes.items piece rest c.add_template.new.bytes.items c.args.most c.from_residual.result _ _ going p.1 p.2 c.in_err-add_template.ensures

pub units-preserved : goal.units-preserved
units-preserved c =
    let before = c.args.bytes.now.items in
    let all = flat_map shown_unit c.args.units.now in
    let piece = shown_unit c.in-Some.unit.now in
    let rest = flat_map shown_unit (drop (c.units.place + 1) c.args.units.now) in
    let going = says before all c.units.bytes.items _ (piece ++ rest) c.args.most c.units.invariant (found_shown shown_unit c.args.units.now c.units.place c.in-Some.unit.now (sym c.in-Some.ensures.unit)) in
    goes_on before all c.units.bytes.items piece rest c.add_template.new.bytes.items c.args.most going c.in_ok-add_template.ensures

pub returns : goal.returns
returns c =
    let none : slice_get c.args.units.now c.units.place ≡ None = search rules in
    ends c.args.bytes.now.items (flat_map shown_unit c.args.units.now) c.units.bytes.items c.args.most
    (says c.args.bytes.now.items (flat_map shown_unit c.args.units.now) c.units.bytes.items _ [] c.args.most c.units.invariant (none_shown shown_unit c.args.units.now c.units.place none))
