use Rattle.std.proofs.Common.{◌≡◌, ◌+◌, ◌*◌, ◌<◌, length, sym, ap, ◌∙◌, arith}
use Rattle.std.proofs.lemmas.Bool.Decides.{nat_tests}
use Rattle.std.proofs.lemmas.Result.{err_from_is_err_and}
use Rattle.abc_value.specs.Sizes.{sizes_fault}
use Rattle.abc_value.proofs.trees.Making.{compound_too_long, compound_fault, regular_sizes}
use Rattle.abc_value.proofs.lists.Alike.{no_parts_small, alike_sizes, many_weights}
use Rattle.abc_value.proofs.sizes.sizes_of_alike.Goals as goal

pub returns-then-is_empty-clause-sizes : goal.returns-then-is_empty-clause-sizes
returns-then-is_empty-clause-sizes c =
    let none : length c.args.parts.now ≡ 0 = (let e = c.is_empty.ensures in let f = c.if-is_empty.true in grind (arith, nat_tests)) in
    no_parts_small c.args.parts.now none

pub returns-then-len-gt-MOST_ELEMENTS-clause-sizes : goal.returns-then-len-gt-MOST_ELEMENTS-clause-sizes
returns-then-len-gt-MOST_ELEMENTS-clause-sizes c = λ _. compound_too_long c.args.parts.now (omega arith)

pub overflow_add-height : goal.overflow_add-height
overflow_add-height c = let s = regular_sizes c.index.result.now c.height-height.ensures.regular in omega (arith, s.0, c.height-height.ensures.height)

pub overflow_mul-weight : goal.overflow_mul-weight
overflow_mul-weight c =
    let s = regular_sizes c.index-2.result.now c.weight.ensures.regular in
    omega (arith, many_weights c.len-2.result c.weight.result (omega arith) (omega (arith, s.1, c.weight.ensures.weight)))

pub overflow_add-weight : goal.overflow_add-weight
overflow_add-weight c =
    let s = regular_sizes c.index-2.result.now c.weight.ensures.regular in
    omega (arith, many_weights c.len-2.result c.weight.result (omega arith) (omega (arith, s.1, c.weight.ensures.weight)))

pub returns-in_err-check_sizes-clause-sizes : goal.returns-in_err-check_sizes-clause-sizes
returns-in_err-check_sizes-clause-sizes c =
    let p = err_from_is_err_and c.from_residual.result c.from_residual.ensures.1 in
    let xs = c.args.parts.now in
    let some : 0 < length xs = (let e = c.is_empty.ensures in let f = c.if-is_empty.false in grind (arith, nat_tests)) in
    let sizes = alike_sizes xs c.index.result.now c.index-2.result.now c.height-height.result c.weight.result c.len-2.result c.requires some c.index.ensures c.index-2.ensures c.height-height.ensures.height c.weight.ensures.weight c.len-2.ensures in
    let h = c.height-height.result + 1 in
    let w = c.weight.result * c.len-2.result + 5 in
    rw (p.1, p.2) (λ _. sym (compound_fault xs h w sizes.0 sizes.1) ∙ ap (λ n. sizes_fault n h w) (sym c.len-3.ensures) ∙ c.in_err-check_sizes.ensures)

pub returns-clause-height : goal.returns-clause-height
returns-clause-height c =
    let xs = c.args.parts.now in
    let some : 0 < length xs = (let e = c.is_empty.ensures in let f = c.if-is_empty.false in grind (arith, nat_tests)) in
    let sizes = alike_sizes xs c.index.result.now c.index-2.result.now c.height-height.result c.weight.result c.len-2.result c.requires some c.index.ensures c.index-2.ensures c.height-height.ensures.height c.weight.ensures.weight c.len-2.ensures in
    sizes.0

pub returns-clause-weight : goal.returns-clause-weight
returns-clause-weight c =
    let xs = c.args.parts.now in
    let some : 0 < length xs = (let e = c.is_empty.ensures in let f = c.if-is_empty.false in grind (arith, nat_tests)) in
    let sizes = alike_sizes xs c.index.result.now c.index-2.result.now c.height-height.result c.weight.result c.len-2.result c.requires some c.index.ensures c.index-2.ensures c.height-height.ensures.height c.weight.ensures.weight c.len-2.ensures in
    sizes.1

pub returns-clause-sizes : goal.returns-clause-sizes
returns-clause-sizes c =
    let xs = c.args.parts.now in
    let some : 0 < length xs = (let e = c.is_empty.ensures in let f = c.if-is_empty.false in grind (arith, nat_tests)) in
    let sizes = alike_sizes xs c.index.result.now c.index-2.result.now c.height-height.result c.weight.result c.len-2.result c.requires some c.index.ensures c.index-2.ensures c.height-height.ensures.height c.weight.ensures.weight c.len-2.ensures in
    let h = c.height-height.result + 1 in
    let w = c.weight.result * c.len-2.result + 5 in
    sym (compound_fault xs h w sizes.0 sizes.1) ∙ ap (λ n. sizes_fault n h w) (sym c.len-3.ensures) ∙ c.in_ok-check_sizes.ensures
