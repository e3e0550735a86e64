use Rattle.std.proofs.Common.{◌≡◌, ◌+◌, ◌<◌, ◌++◌, ◌∙◌, ℕ, List, [], Some, None, length, drop, slice_get, sym, ap, arith, rules}
use Rattle.std.proofs.lemmas.Option.{slice_get_within}
use Rattle.std.proofs.lemmas.Result.{err_from_is_err_and}
use Rattle.std.specs.List.{flat_map}
use Rattle.abc_value.proofs.printed.Appending.{says, goes_on, ends, refused}
use Rattle.abc_inquiry.specs.Inquiry.{with_lf}
use Rattle.abc_inquiry.proofs.Showing.{found_shown, none_shown}
use Rattle.abc_inquiry.proofs.writing.add_names.Goals as goal

pub names-smaller : goal.names-smaller
names-smaller c =
    let h : c.names.place < length c.args.names.now = slice_get_within c.args.names.now c.names.place c.in-Some.name.now (sym c.in-Some.ensures) in
    omega (arith, h)

pub returns-in_err-add_line : goal.returns-in_err-add_line
returns-in_err-add_line c =
    let p = err_from_is_err_and c.from_residual.result c.from_residual.ensures.1 in
    let before = c.args.bytes.now.items in
    let all = flat_map with_lf c.args.names.now in
    let piece = with_lf c.bytes.result.now in
    let rest = flat_map with_lf (drop (c.names.place + 1) c.args.names.now) in
    let going = says before all c.names.bytes.items _ (piece ++ rest) c.args.most c.names.invariant (found_shown with_lf c.args.names.now c.names.place c.in-Some.name.now (sym c.in-Some.ensures) ∙ ap (λ (b : List ℕ). with_lf b ++ rest) (sym c.bytes.ensures)) in
    refused before all c.names.bytes.items piece rest c.add_line.new.bytes.items c.args.most c.from_residual.result _ _ going p.1 p.2 c.in_err-add_line.ensures

pub names-preserved : goal.names-preserved
names-preserved c =
    let before = c.args.bytes.now.items in
    let all = flat_map with_lf c.args.names.now in
    let piece = with_lf c.bytes.result.now in
    let rest = flat_map with_lf (drop (c.names.place + 1) c.args.names.now) in
    let going = says before all c.names.bytes.items _ (piece ++ rest) c.args.most c.names.invariant (found_shown with_lf c.args.names.now c.names.place c.in-Some.name.now (sym c.in-Some.ensures) ∙ ap (λ (b : List ℕ). with_lf b ++ rest) (sym c.bytes.ensures)) in
    goes_on before all c.names.bytes.items piece rest c.add_line.new.bytes.items c.args.most going c.in_ok-add_line.ensures

pub returns : goal.returns
returns c =
    let none : slice_get c.args.names.now c.names.place ≡ None = search rules in
    ends c.args.bytes.now.items (flat_map with_lf c.args.names.now) c.names.bytes.items c.args.most
    (says c.args.bytes.now.items (flat_map with_lf c.args.names.now) c.names.bytes.items _ [] c.args.most c.names.invariant (none_shown with_lf c.args.names.now c.names.place none))
