use Rattle.std.proofs.Common.{◌≡◌, ◌-◌, ◌++◌, ◌∷◌, [], replicate, ap, arith}
use Rattle.std.proofs.lemmas.Result.{err_from_is_err_and}
use Rattle.abc_tokens.specs.Bytes.{space}
use Rattle.abc_value.proofs.printed.Appending.{says, goes_on, ends, refused}
use Rattle.abc_inquiry.proofs.Showing.{space_next}
use Rattle.abc_inquiry.proofs.writing.add_spaces.Goals as goal

pub returns-in_err-append : goal.returns-in_err-append
returns-in_err-append c =
    let p = err_from_is_err_and c.from_residual.result c.from_residual.ensures.1 in
    let before = c.args.bytes.now.items in
    let all = replicate c.args.count space in
    let rest = replicate (c.spaces.left - 1) space in
    let going = says before all c.spaces.bytes.items _ ((space ∷ []) ++ rest) c.args.most c.spaces.invariant (space_next c.spaces.left (omega arith)) in
    refused before all c.spaces.bytes.items (space ∷ []) rest c.append.new.bytes.items c.args.most c.from_residual.result _ _ going p.1 p.2 c.in_err-append.ensures

pub spaces-preserved : goal.spaces-preserved
spaces-preserved c =
    let before = c.args.bytes.now.items in
    let all = replicate c.args.count space in
    let rest = replicate (c.spaces.left - 1) space in
    let going = says before all c.spaces.bytes.items _ ((space ∷ []) ++ rest) c.args.most c.spaces.invariant (space_next c.spaces.left (omega arith)) in
    goes_on before all c.spaces.bytes.items (space ∷ []) rest c.append.new.bytes.items c.args.most going c.in_ok-append.ensures

pub returns : goal.returns
returns c =
    let none : c.spaces.left ≡ 0 = omega arith in
    ends c.args.bytes.now.items (replicate c.args.count space) c.spaces.bytes.items c.args.most
    (says c.args.bytes.now.items (replicate c.args.count space) c.spaces.bytes.items _ [] c.args.most c.spaces.invariant (ap (λ n. replicate n space) none))
