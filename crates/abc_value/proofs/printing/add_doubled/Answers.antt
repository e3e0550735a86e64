use Rattle.std.proofs.Common.{◌+◌, ◌++◌, drop, get_or, arith}
use Rattle.std.proofs.lemmas.Result.{err_from_is_err_and}
use Rattle.std.specs.List.{flat_map}
use Rattle.abc_value.specs.Printed.{doubled}
use Rattle.abc_value.proofs.printed.Appending.{begins, says, goes_on, ends, refused, doubled_more, doubled_all}
use Rattle.abc_value.proofs.printing.add_doubled.Goals as goal

pub loop-c-init : goal.loop-c-init
loop-c-init c = begins c.args.bytes.now.items (flat_map doubled c.args.text.now) c.args.most

pub returns-in_err-add_character : goal.returns-in_err-add_character
returns-in_err-add_character c =
    let p = err_from_is_err_and c.from_residual.result c.from_residual.ensures.1 in
    let before = c.args.bytes.now.items in
    let all = flat_map doubled c.args.text.now in
    let rest = flat_map doubled (drop (c.loop-c.c-index + 1) c.args.text.now) in
    let going = says before all c.loop-c.bytes.items _ (doubled (get_or c.args.text.now c.loop-c.c-index 0) ++ rest) c.args.most c.loop-c.invariant (doubled_more c.args.text.now c.loop-c.c-index c.loop-c-test.true) in
    refused before all c.loop-c.bytes.items (doubled (get_or c.args.text.now c.loop-c.c-index 0)) rest c.add_character.new.bytes.items c.args.most c.from_residual.result _ _ going p.1 p.2 c.in_err-add_character.ensures

pub loop-c-preserved : goal.loop-c-preserved
loop-c-preserved c =
    let before = c.args.bytes.now.items in
    let all = flat_map doubled c.args.text.now in
    let rest = flat_map doubled (drop (c.loop-c.c-index + 1) c.args.text.now) in
    let going = says before all c.loop-c.bytes.items _ (doubled (get_or c.args.text.now c.loop-c.c-index 0) ++ rest) c.args.most c.loop-c.invariant (doubled_more c.args.text.now c.loop-c.c-index c.loop-c-test.true) in
    goes_on before all c.loop-c.bytes.items (doubled (get_or c.args.text.now c.loop-c.c-index 0)) rest c.add_character.new.bytes.items c.args.most going c.in_ok-add_character.ensures

pub returns : goal.returns
returns c =
    let before = c.args.bytes.now.items in
    let all = flat_map doubled c.args.text.now in
    ends before all c.loop-c.bytes.items c.args.most (says before all c.loop-c.bytes.items _ _ c.args.most c.loop-c.invariant (doubled_all c.args.text.now c.loop-c.c-index (omega arith)))
