use Rattle.std.proofs.Common.{◌+◌, ◌≤◌, ◌++◌, [], length, drop, arith}
use Rattle.std.proofs.lemmas.Result.{err_from_is_err_and}
use Rattle.std.specs.List.{flat_map}
use Rattle.abc_value.proofs.printed.Appending.{says, goes_on, ends, refused}
use Rattle.abc_inquiry.specs.Inquiry.{shown_line}
use Rattle.abc_inquiry.proofs.Showing.{next_shown, all_shown}
use Rattle.abc_inquiry.proofs.writing.add_unit_lines.Goals as goal

pub returns-in_err-add_unit_line : goal.returns-in_err-add_unit_line
returns-in_err-add_unit_line c =
    let p = err_from_is_err_and c.from_residual.result c.from_residual.ensures.1 in
    let before = c.args.bytes.now.items in
    let all = flat_map shown_line c.args.lines.now in
    let piece = shown_line c.index-lines-i.result in
    let rest = flat_map shown_line (drop (c.loop-i.i + 1) c.args.lines.now) in
    let going = says before all c.loop-i.bytes.items _ (piece ++ rest) c.args.most c.loop-i.invariant (next_shown shown_line c.args.lines.now c.loop-i.i c.index-lines-i.result c.loop-i-test.true c.index-lines-i.is) in
    refused before all c.loop-i.bytes.items piece rest c.add_unit_line.new.bytes.items c.args.most c.from_residual.result _ _ going p.1 p.2 c.in_err-add_unit_line.ensures

pub loop-i-preserved : goal.loop-i-preserved
loop-i-preserved c =
    let before = c.args.bytes.now.items in
    let all = flat_map shown_line c.args.lines.now in
    let piece = shown_line c.index-lines-i.result in
    let rest = flat_map shown_line (drop (c.loop-i.i + 1) c.args.lines.now) in
    let going = says before all c.loop-i.bytes.items _ (piece ++ rest) c.args.most c.loop-i.invariant (next_shown shown_line c.args.lines.now c.loop-i.i c.index-lines-i.result c.loop-i-test.true c.index-lines-i.is) in
    goes_on before all c.loop-i.bytes.items piece rest c.add_unit_line.new.bytes.items c.args.most going c.in_ok-add_unit_line.ensures

pub returns : goal.returns
returns c =
    let past : length c.args.lines.now ≤ c.loop-i.i = omega arith in
    ends c.args.bytes.now.items (flat_map shown_line c.args.lines.now) c.loop-i.bytes.items c.args.most
    (says c.args.bytes.now.items (flat_map shown_line c.args.lines.now) c.loop-i.bytes.items _ [] c.args.most c.loop-i.invariant (all_shown shown_line c.args.lines.now c.loop-i.i past))
