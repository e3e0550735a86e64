use Rattle.std.proofs.Common.{◌≡◌, ◌+◌, max, subst, sym, ap, ◌∙◌, arith, length}
use Rattle.std.proofs.lemmas.Result.{err_from_is_err_and}
use Rattle.abc_value.specs.Tree.{list, trees}
use Rattle.abc_value.specs.Sizes.{height_of, weight_of, sizes_fault}
use Rattle.abc_value.specs.Regular.{IsRegular}
use Rattle.abc_value.specs.Changes.{add}
use Rattle.abc_value.specs.View.{node_tree}
use Rattle.abc_value.proofs.trees.Making.{regular_sizes}
use Rattle.abc_value.proofs.lists.Placing.{add_placed}
use Rattle.abc_value.proofs.lists.Adding.{added_fault, added_is, added_invariant, list_parts}
use Rattle.abc_value.proofs.trees.Short.{list_short}
use Rattle.abc_value.proofs.value.Value.insert.Goals as goal

pub overflow_add-below : goal.overflow_add-below
overflow_add-below c = let s = regular_sizes c.args.e c.height-below.ensures.regular in omega (arith, s.0, c.height-below.ensures.height)

pub overflow_add-weight : goal.overflow_add-weight
overflow_add-weight c =
    let s = regular_sizes c.args.e c.height-below.ensures.regular in
    let o = regular_sizes (node_tree c.self.inside.node) c.self.invariant.2 in
    omega (arith, s.1, o.1, c.weight-added.ensures.weight, c.self.invariant.1)

pub overflow_add-len : goal.overflow_add-len
overflow_add-len c = let short = list_short c.in-List.items (node_tree c.self.inside.node) (ap node_tree c.in-List.is) c.self.invariant.2 in omega (arith, short, c.len.ensures)

pub returns-in_err-check_sizes-clause-sizes : goal.returns-in_err-check_sizes-clause-sizes
returns-in_err-check_sizes-clause-sizes c =
    let p = err_from_is_err_and c.from_residual.result c.from_residual.ensures.1 in
    let count : c.len.result ≡ length c.in-List.items = omega arith in
    let high : c.self.inside.height ≡ height_of c.args.self.now = c.self.invariant.0 ∙ ap height_of c.self.view_is in
    let heavy : c.self.inside.weight ≡ weight_of c.args.self.now = c.self.invariant.1 ∙ ap weight_of c.self.view_is in
    rw (p.1, p.2) (λ _. sym (added_fault c.args.e c.args.self.now c.in-List.items c.len.result c.max-height.result (c.self.inside.weight + c.weight-added.result) (ap node_tree (sym c.in-List.is) ∙ c.self.view_is) count
    (c.max-height.ensures ∙ (λ i. max (high i) (c.height-below.ensures.height i + 1))) (λ i. heavy i + c.weight-added.ensures.weight i)) ∙ c.in_err-check_sizes.ensures)

pub place_of-place-requires-clause-ordered : goal.place_of-place-requires-clause-ordered
place_of-place-requires-clause-ordered c =
    (list_parts c.in-List.items (node_tree c.self.inside.node) (ap node_tree c.in-List.is) c.self.invariant.2).0

pub place_of-place-requires-clause-regular : goal.place_of-place-requires-clause-regular
place_of-place-requires-clause-regular c =
    (list_parts c.in-List.items (node_tree c.self.inside.node) (ap node_tree c.in-List.is) c.self.invariant.2).1

pub invariant_of-self-2 : goal.invariant_of-self-2
invariant_of-self-2 c =
    let xs = c.in-List.items in
    let e = c.args.e in
    let opened = ap node_tree c.in-List.is in
    let now : c.insert.new.self ≡ add e xs = c.in_ok-insert.ensures.ok ∙ add_placed e xs c.place_of-place.result c.place_of-place.ensures in
    let count : c.len.result ≡ length c.in-List.items = omega arith in
    let high : c.self.inside.height ≡ height_of (list (trees xs)) = c.self.invariant.0 ∙ ap height_of opened in
    let heavy : c.self.inside.weight ≡ weight_of (list (trees xs)) = c.self.invariant.1 ∙ ap weight_of opened in
    added_invariant e xs c.insert.new.self c.max-height.result (c.self.inside.weight + c.weight-added.result) now c.height-below.ensures.regular (subst IsRegular opened c.self.invariant.2)
    (c.max-height.ensures ∙ (λ i. max (high i) (c.height-below.ensures.height i + 1))) (λ i. heavy i + c.weight-added.ensures.weight i)
    (ap (λ n. sizes_fault (n + 1) c.max-height.result (c.self.inside.weight + c.weight-added.result)) (sym count) ∙ c.in_ok-check_sizes.ensures)

pub returns-clause-ok : goal.returns-clause-ok
returns-clause-ok c =
    let xs = c.in-List.items in
    let e = c.args.e in
    let now : c.insert.new.self ≡ add e xs = c.in_ok-insert.ensures.ok ∙ add_placed e xs c.place_of-place.result c.place_of-place.ensures in
    added_is e c.args.self.now xs c.insert.new.self (ap node_tree (sym c.in-List.is) ∙ c.self.view_is) now

pub returns-clause-sizes : goal.returns-clause-sizes
returns-clause-sizes c =
    let count : c.len.result ≡ length c.in-List.items = omega arith in
    let high : c.self.inside.height ≡ height_of c.args.self.now = c.self.invariant.0 ∙ ap height_of c.self.view_is in
    let heavy : c.self.inside.weight ≡ weight_of c.args.self.now = c.self.invariant.1 ∙ ap weight_of c.self.view_is in
    sym (added_fault c.args.e c.args.self.now c.in-List.items c.len.result c.max-height.result (c.self.inside.weight + c.weight-added.result) (ap node_tree (sym c.in-List.is) ∙ c.self.view_is) count
    (c.max-height.ensures ∙ (λ i. max (high i) (c.height-below.ensures.height i + 1))) (λ i. heavy i + c.weight-added.ensures.weight i)) ∙ c.in_ok-check_sizes.ensures
