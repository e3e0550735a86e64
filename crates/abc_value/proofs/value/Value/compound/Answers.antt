use Rattle.std.proofs.Common.{◌≤◌, length, sym, ap, ◌∙◌, arith}
use Rattle.std.proofs.lemmas.Result.{err_from_is_err_and}
use Rattle.abc_value.specs.Tree.{compound, trees}
use Rattle.abc_value.specs.Sizes.{size_fault}
use Rattle.abc_value.proofs.trees.Making.{compound_fault, compound_invariant}
use Rattle.abc_value.proofs.value.Value.compound.Goals as goal

pub returns-in_err-height-clause-sizes : goal.returns-in_err-height-clause-sizes
returns-in_err-height-clause-sizes c =
    let p = err_from_is_err_and c.from_residual-in_err-height.result c.from_residual-in_err-height.ensures.1 in
    rw (p.1, p.2) (λ other. ap (λ xs. size_fault (compound (trees xs))) (sym c.in_ok-parts.ensures) ∙ c.in_err-height.ensures.sizes other)

pub invariant_of-result : goal.invariant_of-result
invariant_of-result c =
    let e = c.in_ok-height.ensures in
    let h = c.in_ok-height.height in
    let w = c.in_ok-height.weight in
    let xs = c.in_ok-parts.parts in
    let two : 2 ≤ length xs = omega (arith, c.requires, ap length c.in_ok-parts.ensures) in
    compound_invariant xs h w two e.regular e.height e.weight (compound_fault xs h w e.height e.weight ∙ e.sizes)

pub returns-clause-sizes : goal.returns-clause-sizes
returns-clause-sizes c = ap (λ xs. size_fault (compound (trees xs))) (sym c.in_ok-parts.ensures) ∙ c.in_ok-height.ensures.sizes
