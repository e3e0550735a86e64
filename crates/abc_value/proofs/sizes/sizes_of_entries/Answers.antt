use Rattle.std.proofs.Common.{◌≡◌, ◌+◌, length, map, sym, ap, ◌∙◌, arith}
use Rattle.std.proofs.lemmas.List.{length-map}
use Rattle.std.proofs.lemmas.Result.{err_from_is_err_and}
use Rattle.abc_value.specs.Tree.{pairs}
use Rattle.abc_value.specs.View.{as_pair}
use Rattle.abc_value.specs.Sizes.{pairs_weight, sizes_fault}
use Rattle.abc_value.proofs.tables.Collecting.{table_too_long, table_fault, pairs_bound}
use Rattle.abc_value.proofs.sizes.sizes_of_entries.Goals as goal

pub returns-then-len-gt-MOST_ELEMENTS-clause-sizes : goal.returns-then-len-gt-MOST_ELEMENTS-clause-sizes
returns-then-len-gt-MOST_ELEMENTS-clause-sizes c =
    let es = c.args.entries.now in
    let count = length-map es as_pair in
    λ _. table_too_long (map as_pair es) (omega arith)

pub overflow_add-weight : goal.overflow_add-weight
overflow_add-weight c = omega (arith, c.total_entry_weight-weight.ensures.bound)

pub tallest_entry-height-requires : goal.tallest_entry-height-requires
tallest_entry-height-requires c = pairs_bound (map as_pair c.args.entries.now) c.total_entry_weight-weight.ensures.regular

pub returns-in_err-check_sizes-clause-sizes : goal.returns-in_err-check_sizes-clause-sizes
returns-in_err-check_sizes-clause-sizes c =
    let p = err_from_is_err_and c.from_residual.result c.from_residual.ensures.1 in
    let ps = map as_pair c.args.entries.now in
    let all = length-map c.args.entries.now as_pair in
    let count : c.len-2.result ≡ length ps = omega arith in
    let heavy : c.total_entry_weight-weight.result + 5 ≡ pairs_weight (pairs ps) + 5 = ap (λ w. w + 5) c.total_entry_weight-weight.ensures.weight in
    rw (p.1, p.2) (λ _. sym (table_fault ps _ _ c.tallest_entry-height.ensures heavy) ∙ ap (λ n. sizes_fault n c.tallest_entry-height.result (c.total_entry_weight-weight.result + 5)) (sym count) ∙ c.in_err-check_sizes.ensures)

pub returns-clause-sizes : goal.returns-clause-sizes
returns-clause-sizes c =
    let ps = map as_pair c.args.entries.now in
    let all = length-map c.args.entries.now as_pair in
    let count : c.len-2.result ≡ length ps = omega arith in
    let heavy : c.total_entry_weight-weight.result + 5 ≡ pairs_weight (pairs ps) + 5 = ap (λ w. w + 5) c.total_entry_weight-weight.ensures.weight in
    sym (table_fault ps _ _ c.tallest_entry-height.ensures heavy) ∙ ap (λ n. sizes_fault n c.tallest_entry-height.result (c.total_entry_weight-weight.result + 5)) (sym count) ∙ c.in_ok-check_sizes.ensures
