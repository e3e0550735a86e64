use Rattle.std.proofs.Common.{◌+◌, ◌<◌, ◌≤◌, [], ◌++◌, length, get_or, drop, refl, arith}
use Rattle.std.proofs.lemmas.Result.{err_from_is_err_and}
use Rattle.std.specs.Prelude.{codes}
use Rattle.abc_value.specs.Tree.{trees}
use Rattle.abc_value.specs.Printed.{joined, plain, plains}
use Rattle.abc_value.specs.inner.Printing.{lead}
use Rattle.abc_value.proofs.printed.Appending.{left, says, goes_on, ends, refused, left_more, left_all, plains_count, plain_at}
use Rattle.abc_value.proofs.printing.add_plains.Goals as goal

pub returns-in_err-separate : goal.returns-in_err-separate
returns-in_err-separate c =
    let p = err_from_is_err_and c.from_residual.result c.from_residual.ensures.1 in
    let before = c.args.bytes.now.items in
    let texts = plains (trees c.args.fields.now) in
    let inside : c.loop-i.i < length texts = omega (arith, plains_count c.args.fields.now) in
    let t = get_or texts c.loop-i.i [] in
    let rest = left (codes " ") (c.loop-i.i + 1) (drop (c.loop-i.i + 1) texts) in
    let going = says before (joined (codes " ") texts) c.loop-i.bytes.items _ (lead (codes " ") c.loop-i.i ++ (t ++ rest)) c.args.most c.loop-i.invariant (left_more (codes " ") texts c.loop-i.i t inside refl) in
    refused before (joined (codes " ") texts) c.loop-i.bytes.items (lead (codes " ") c.loop-i.i) (t ++ rest) c.separate.new.bytes.items c.args.most c.from_residual.result _ _ going p.1 p.2 c.in_err-separate.ensures

pub returns-in_err-add_plain : goal.returns-in_err-add_plain
returns-in_err-add_plain c =
    let p = err_from_is_err_and c.from_residual-in_err-add_plain.result c.from_residual-in_err-add_plain.ensures.1 in
    let before = c.args.bytes.now.items in
    let texts = plains (trees c.args.fields.now) in
    let inside : c.loop-i.i < length texts = omega (arith, plains_count c.args.fields.now) in
    let t = plain c.index.result.now in
    let rest = left (codes " ") (c.loop-i.i + 1) (drop (c.loop-i.i + 1) texts) in
    let going = says before (joined (codes " ") texts) c.loop-i.bytes.items _ (lead (codes " ") c.loop-i.i ++ (t ++ rest)) c.args.most c.loop-i.invariant (left_more (codes " ") texts c.loop-i.i t inside (plain_at c.args.fields.now c.loop-i.i c.index.result.now (omega arith) c.index.ensures)) in
    let led = goes_on before (joined (codes " ") texts) c.loop-i.bytes.items (lead (codes " ") c.loop-i.i) (t ++ rest) c.separate.new.bytes.items c.args.most going c.in_ok-separate.ensures in
    refused before (joined (codes " ") texts) c.separate.new.bytes.items t rest c.add_plain.new.bytes.items c.args.most c.from_residual-in_err-add_plain.result _ _ led p.1 p.2 c.in_err-add_plain.ensures

pub loop-i-preserved : goal.loop-i-preserved
loop-i-preserved c =
    let before = c.args.bytes.now.items in
    let texts = plains (trees c.args.fields.now) in
    let inside : c.loop-i.i < length texts = omega (arith, plains_count c.args.fields.now) in
    let t = plain c.index.result.now in
    let rest = left (codes " ") (c.loop-i.i + 1) (drop (c.loop-i.i + 1) texts) in
    let going = says before (joined (codes " ") texts) c.loop-i.bytes.items _ (lead (codes " ") c.loop-i.i ++ (t ++ rest)) c.args.most c.loop-i.invariant (left_more (codes " ") texts c.loop-i.i t inside (plain_at c.args.fields.now c.loop-i.i c.index.result.now (omega arith) c.index.ensures)) in
    let led = goes_on before (joined (codes " ") texts) c.loop-i.bytes.items (lead (codes " ") c.loop-i.i) (t ++ rest) c.separate.new.bytes.items c.args.most going c.in_ok-separate.ensures in
    goes_on before (joined (codes " ") texts) c.separate.new.bytes.items t rest c.add_plain.new.bytes.items c.args.most led c.in_ok-add_plain.ensures

pub returns : goal.returns
returns c =
    let texts = plains (trees c.args.fields.now) in
    let past : length texts ≤ c.loop-i.i = omega (arith, plains_count c.args.fields.now) in
    ends c.args.bytes.now.items (joined (codes " ") texts) c.loop-i.bytes.items c.args.most (says c.args.bytes.now.items (joined (codes " ") texts) c.loop-i.bytes.items _ [] c.args.most c.loop-i.invariant (left_all (codes " ") texts c.loop-i.i past))
