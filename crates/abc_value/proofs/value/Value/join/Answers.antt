use Rattle.std.proofs.Common.{◌≢◌, ◌+◌, ◌<◌, ◌≤◌, List, length, map, get_or, sym, ap, ◌∙◌, subst, arith}
use Rattle.std.proofs.lemmas.List.{length-map}
use Rattle.std.proofs.lemmas.Result.{err_from_is_err_and}
use Rattle.std.specs.declared.cmp.Ordering.TheVariants.{Equal}
use Rattle.abc_value.specs.Tree.{Tree, table, pairs}
use Rattle.abc_value.specs.Order.{order}
use Rattle.abc_value.specs.Sizes.{height_of, weight_of, size_fault}
use Rattle.abc_value.specs.Regular.{IsRegular}
use Rattle.abc_value.specs.Changes.{with_pair, IsPlaceOf}
use Rattle.abc_value.specs.declared.value.Entry.{Entry}
use Rattle.abc_value.specs.View.{node_tree, as_pair}
use Rattle.abc_value.proofs.trees.Making.{regular_sizes}
use Rattle.abc_value.proofs.tables.Keys.{firsts, pairs_are, keys_of_are, map_insert}
use Rattle.abc_value.proofs.tables.Tables.{join_fault, join_invariant}
use Rattle.abc_value.proofs.tables.Pairing.{insert_placed}
use Rattle.abc_value.proofs.trees.Short.{table_short}
use Rattle.abc_value.proofs.value.Value.join.Goals as goal

pub overflow_add-high : goal.overflow_add-high
overflow_add-high c =
    let s = regular_sizes c.args.k c.height.ensures.regular in
    let r = regular_sizes c.args.a c.height-2.ensures.regular in
    omega (arith, s.0, r.0, c.height.ensures.height, c.height-2.ensures.height)

pub overflow_add-heavy : goal.overflow_add-heavy
overflow_add-heavy c =
    let s = regular_sizes c.args.k c.height.ensures.regular in
    let r = regular_sizes c.args.a c.height-2.ensures.regular in
    omega (arith, s.1, r.1, c.weight.ensures.weight, c.weight-2.ensures.weight)

pub overflow_add-weight : goal.overflow_add-weight
overflow_add-weight c =
    let s = regular_sizes c.args.k c.height.ensures.regular in
    let r = regular_sizes c.args.a c.height-2.ensures.regular in
    let o = regular_sizes (node_tree c.self.inside.node) c.self.invariant.2 in
    omega (arith, s.1, r.1, o.1, c.weight.ensures.weight, c.weight-2.ensures.weight, c.self.invariant.1)

pub overflow_add-len : goal.overflow_add-len
overflow_add-len c =
    let short = table_short (map as_pair c.in-Table.entries) (node_tree c.self.inside.node) (ap node_tree c.in-Table.is) c.self.invariant.2 in
    omega (arith, short, length-map c.in-Table.entries as_pair, c.len.ensures)

pub returns-in_err-check_sizes-clause-sizes : goal.returns-in_err-check_sizes-clause-sizes
returns-in_err-check_sizes-clause-sizes c =
    let p = err_from_is_err_and c.from_residual.result c.from_residual.ensures.1 in
    let es = c.in-Table.entries in
    let same = pairs_are (map as_pair es) c.args.self.now (ap node_tree (sym c.in-Table.is) ∙ c.self.view_is) in
    let P : List (Tree × Tree) → Type 0 = λ ps. IsPlaceOf c.args.k (firsts ps) c.args.place in
    let Q : List (Tree × Tree) → Type 0 = λ ps. c.args.place < length (firsts ps) → order (get_or (firsts ps) c.args.place c.args.k) c.args.k ≢ Equal in
    let high = c.self.invariant.0 ∙ ap height_of (ap node_tree c.in-Table.is) in
    let heavy = c.self.invariant.1 ∙ ap weight_of (ap node_tree c.in-Table.is) in
    rw (p.1, p.2) (λ _. sym (join_fault c.args.k c.args.a (map as_pair es) c.args.place (subst P (sym same) c.requires.place) (subst Q (sym same) c.requires.absent) c.len.result c.max-height.result (c.self.inside.weight + (c.weight.result + c.weight-2.result))
    (omega (arith, length-map es as_pair)) (omega (arith, high, c.height.ensures.height, c.height-2.ensures.height)) (omega (arith, heavy, c.weight.ensures.weight, c.weight-2.ensures.weight))
    ∙ ap (λ ps. size_fault (table (pairs (with_pair c.args.k c.args.a ps)))) same) ∙ c.in_err-check_sizes.ensures)

pub insert-requires : goal.insert-requires
insert-requires c =
    let es = c.in-Table.entries in
    let same = keys_of_are es c.args.self.now (ap node_tree (sym c.in-Table.is) ∙ c.self.view_is) in
    let P : List Tree → Type 0 = λ ks. c.args.place ≤ length ks in
    let h = subst P (sym same) c.requires.place.within in
    omega (arith, length-map es (λ (e : Entry). e.key))

pub invariant_of-self-2 : goal.invariant_of-self-2
invariant_of-self-2 c =
    let es = c.in-Table.entries in
    let same = pairs_are (map as_pair es) c.args.self.now (ap node_tree (sym c.in-Table.is) ∙ c.self.view_is) in
    let P : List (Tree × Tree) → Type 0 = λ ps. IsPlaceOf c.args.k (firsts ps) c.args.place in
    let Q : List (Tree × Tree) → Type 0 = λ ps. c.args.place < length (firsts ps) → order (get_or (firsts ps) c.args.place c.args.k) c.args.k ≢ Equal in
    let high = c.self.invariant.0 ∙ ap height_of (ap node_tree c.in-Table.is) in
    let heavy = c.self.invariant.1 ∙ ap weight_of (ap node_tree c.in-Table.is) in
    join_invariant c.args.k c.args.a (map as_pair es) c.args.place (subst P (sym same) c.requires.place) (subst Q (sym same) c.requires.absent) (map as_pair c.insert.new.self) c.len.result c.max-height.result (c.self.inside.weight + (c.weight.result + c.weight-2.result))
    (ap (map as_pair) c.in_ok-insert.ensures.ok ∙ map_insert es c.args.place _) c.height.ensures.regular c.height-2.ensures.regular (subst IsRegular (ap node_tree c.in-Table.is) c.self.invariant.2)
    (omega (arith, length-map es as_pair)) (omega (arith, high, c.height.ensures.height, c.height-2.ensures.height)) (omega (arith, heavy, c.weight.ensures.weight, c.weight-2.ensures.weight)) c.in_ok-check_sizes.ensures

pub returns-clause-ok : goal.returns-clause-ok
returns-clause-ok c =
    let es = c.in-Table.entries in
    let same = pairs_are (map as_pair es) c.args.self.now (ap node_tree (sym c.in-Table.is) ∙ c.self.view_is) in
    let P : List (Tree × Tree) → Type 0 = λ ps. IsPlaceOf c.args.k (firsts ps) c.args.place in
    let Q : List (Tree × Tree) → Type 0 = λ ps. c.args.place < length (firsts ps) → order (get_or (firsts ps) c.args.place c.args.k) c.args.k ≢ Equal in
    ap (λ ps. table (pairs ps)) (ap (map as_pair) c.in_ok-insert.ensures.ok ∙ map_insert es c.args.place _ ∙ insert_placed c.args.k c.args.a (map as_pair es) c.args.place (subst P (sym same) c.requires.place) (subst Q (sym same) c.requires.absent) ∙ ap (with_pair c.args.k c.args.a) same)

pub returns-clause-sizes : goal.returns-clause-sizes
returns-clause-sizes c =
    let es = c.in-Table.entries in
    let same = pairs_are (map as_pair es) c.args.self.now (ap node_tree (sym c.in-Table.is) ∙ c.self.view_is) in
    let P : List (Tree × Tree) → Type 0 = λ ps. IsPlaceOf c.args.k (firsts ps) c.args.place in
    let Q : List (Tree × Tree) → Type 0 = λ ps. c.args.place < length (firsts ps) → order (get_or (firsts ps) c.args.place c.args.k) c.args.k ≢ Equal in
    let high = c.self.invariant.0 ∙ ap height_of (ap node_tree c.in-Table.is) in
    let heavy = c.self.invariant.1 ∙ ap weight_of (ap node_tree c.in-Table.is) in
    sym (join_fault c.args.k c.args.a (map as_pair es) c.args.place (subst P (sym same) c.requires.place) (subst Q (sym same) c.requires.absent) c.len.result c.max-height.result (c.self.inside.weight + (c.weight.result + c.weight-2.result))
    (omega (arith, length-map es as_pair)) (omega (arith, high, c.height.ensures.height, c.height-2.ensures.height)) (omega (arith, heavy, c.weight.ensures.weight, c.weight-2.ensures.weight))
    ∙ ap (λ ps. size_fault (table (pairs (with_pair c.args.k c.args.a ps)))) same) ∙ c.in_ok-check_sizes.ensures
