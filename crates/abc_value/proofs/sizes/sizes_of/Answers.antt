use Rattle.std.proofs.Common.{◌≡◌, ◌+◌, length, sym, ap, ◌∙◌, arith}
use Rattle.std.proofs.lemmas.Result.{err_from_is_err_and}
use Rattle.abc_value.specs.Tree.{trees}
use Rattle.abc_value.specs.Sizes.{trees_weight, sizes_fault}
use Rattle.abc_value.proofs.trees.Making.{compound_too_long, compound_fault, parts_height}
use Rattle.abc_value.proofs.sizes.sizes_of.Goals as goal

pub returns-then-len-gt-MOST_ELEMENTS-clause-sizes : goal.returns-then-len-gt-MOST_ELEMENTS-clause-sizes
returns-then-len-gt-MOST_ELEMENTS-clause-sizes c = λ _. compound_too_long c.args.parts.now (omega arith)

pub overflow_add-weight : goal.overflow_add-weight
overflow_add-weight c = omega (arith, c.total_weight-weight.ensures.bound)

pub tallest-height-requires : goal.tallest-height-requires
tallest-height-requires c = parts_height c.args.parts.now c.total_weight-weight.ensures.regular

pub returns-in_err-check_sizes-clause-sizes : goal.returns-in_err-check_sizes-clause-sizes
returns-in_err-check_sizes-clause-sizes c =
    let p = err_from_is_err_and c.from_residual.result c.from_residual.ensures.1 in
    let xs = c.args.parts.now in
    let count : c.len-2.result ≡ length xs = omega arith in
    let heavy : c.total_weight-weight.result + 5 ≡ trees_weight (trees xs) + 5 = ap (λ w. w + 5) c.total_weight-weight.ensures.weight in
    rw (p.1, p.2) (λ _. sym (compound_fault xs _ _ c.tallest-height.ensures heavy) ∙ ap (λ n. sizes_fault n c.tallest-height.result (c.total_weight-weight.result + 5)) (sym count) ∙ c.in_err-check_sizes.ensures)

pub returns-clause-sizes : goal.returns-clause-sizes
returns-clause-sizes c =
    let xs = c.args.parts.now in
    let count : c.len-2.result ≡ length xs = omega arith in
    let heavy : c.total_weight-weight.result + 5 ≡ trees_weight (trees xs) + 5 = ap (λ w. w + 5) c.total_weight-weight.ensures.weight in
    sym (compound_fault xs _ _ c.tallest-height.ensures heavy) ∙ ap (λ n. sizes_fault n c.tallest-height.result (c.total_weight-weight.result + 5)) (sym count) ∙ c.in_ok-check_sizes.ensures
