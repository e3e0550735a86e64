use Rattle.std.proofs.Common.{◌≡◌, ◌+◌, ◌-◌, ◌<◌, List, length, map, sym, ap, ◌∙◌, subst, arith}
use Rattle.std.proofs.lemmas.List.{length-map}
use Rattle.std.proofs.lemmas.Result.{err_from_is_err_and}
use Rattle.abc_value.specs.Tree.{Tree, table, pairs}
use Rattle.abc_value.specs.Sizes.{height_of, weight_of, pairs_height, pairs_weight}
use Rattle.abc_value.specs.Regular.{IsRegular}
use Rattle.abc_value.specs.Changes.{with_pair}
use Rattle.abc_value.specs.declared.value.Entry.{Entry}
use Rattle.abc_value.specs.View.{node_tree, as_pair}
use Rattle.abc_value.proofs.tables.Heights.{set_height}
use Rattle.abc_value.proofs.trees.Making.{regular_sizes}
use Rattle.abc_value.proofs.tables.Keys.{keys_of_are}
use Rattle.abc_value.proofs.tables.Tables.{replacing}
use Rattle.abc_value.proofs.value.Value.replace.Goals as goal

pub overflow_add-high : goal.overflow_add-high
overflow_add-high c = let s = regular_sizes c.args.a c.height-high.ensures.regular in omega (arith, s.0, c.height-high.ensures.height)

pub index-requires : goal.index-requires
index-requires c =
    let es = c.in-Table.entries in
    let same = keys_of_are es c.args.self.now (ap node_tree (sym c.in-Table.is) ∙ c.self.view_is) in
    let P : List Tree → Type 0 = λ ks. c.args.place < length ks in
    let h = subst P (sym same) c.requires.there.0 in
    omega (arith, h, length-map es (λ (e : Entry). e.key))

pub height_with-height-requires-clause-place : goal.height_with-height-requires-clause-place
height_with-height-requires-clause-place c =
    let es = c.in-Table.entries in
    let same = keys_of_are es c.args.self.now (ap node_tree (sym c.in-Table.is) ∙ c.self.view_is) in
    let P : List Tree → Type 0 = λ ks. c.args.place < length ks in
    let h = subst P (sym same) c.requires.there.0 in
    omega (arith, h, length-map es (λ (e : Entry). e.key))

pub height_with-height-requires-clause-height : goal.height_with-height-requires-clause-height
height_with-height-requires-clause-height c = c.self.invariant.0 ∙ ap height_of (ap node_tree c.in-Table.is)

pub overflow_add-weight : goal.overflow_add-weight
overflow_add-weight c =
    let s = regular_sizes c.args.a c.height-high.ensures.regular in
    let o = regular_sizes (node_tree c.self.inside.node) c.self.invariant.2 in
    omega (arith, s.1, o.1, c.weight-heavy.ensures.weight, c.self.invariant.1)

pub overflow_sub-weight : goal.overflow_sub-weight
overflow_sub-weight c =
    let es = c.in-Table.entries in
    let n = c.args.place in
    let opened = ap node_tree c.in-Table.is in
    let r = replacing c.args.k c.args.a c.args.self.now es n c.index.result.now (sym opened ∙ c.self.view_is) c.requires.place c.requires.there c.index.ensures in
    let heavy = c.self.invariant.1 ∙ ap weight_of opened in
    omega (arith, heavy, r.sizes.weight, c.weight-heavy.ensures.weight, c.weight-light.ensures.weight)

pub returns-in_err-check_sizes-clause-sizes : goal.returns-in_err-check_sizes-clause-sizes
returns-in_err-check_sizes-clause-sizes c =
    let p = err_from_is_err_and c.from_residual.result c.from_residual.ensures.1 in
    let es = c.in-Table.entries in
    let n = c.args.place in
    let opened = ap node_tree c.in-Table.is in
    let r = replacing c.args.k c.args.a c.args.self.now es n c.index.result.now (sym opened ∙ c.self.view_is) c.requires.place c.requires.there c.index.ensures in
    let heavy = c.self.invariant.1 ∙ ap weight_of opened in
    let tall : c.height_with-height.result ≡ pairs_height (pairs (with_pair c.args.k c.args.a (map as_pair es))) = omega (arith, c.height_with-height.ensures, c.height-high.ensures.height, set_height es n c.args.k c.args.a c.index.result.now r.inside c.index.ensures r.same_key, ap (λ ps. pairs_height (pairs ps)) r.is) in
    let load : c.self.inside.weight + c.weight-heavy.result - c.weight-light.result ≡ pairs_weight (pairs (with_pair c.args.k c.args.a (map as_pair es))) + 5 = omega (arith, heavy, r.sizes.weight, c.weight-heavy.ensures.weight, c.weight-light.ensures.weight) in
    let count : c.len.result ≡ length es = omega (arith, c.len.ensures) in
    rw (p.1, p.2) (λ _. sym (r.fault c.len.result c.height_with-height.result (c.self.inside.weight + c.weight-heavy.result - c.weight-light.result) count tall load) ∙ c.in_err-check_sizes.ensures)

pub replace-requires : goal.replace-requires
replace-requires c =
    let es = c.in-Table.entries in
    let same = keys_of_are es c.args.self.now (ap node_tree (sym c.in-Table.is) ∙ c.self.view_is) in
    let P : List Tree → Type 0 = λ ks. c.args.place < length ks in
    let h = subst P (sym same) c.requires.there.0 in
    omega (arith, h, length-map es (λ (e : Entry). e.key))

pub returns-in_err-replace-clause-err : goal.returns-in_err-replace-clause-err
returns-in_err-replace-clause-err c =
    let p = err_from_is_err_and c.from_residual-in_err-replace.result c.from_residual-in_err-replace.ensures.1 in
    rw p.1 (ap (λ fs. table (pairs (map as_pair fs))) c.in_err-replace.ensures.err ∙ ap node_tree (sym c.in-Table.is) ∙ c.self.view_is)

pub invariant_of-self-2 : goal.invariant_of-self-2
invariant_of-self-2 c =
    let es = c.in-Table.entries in
    let n = c.args.place in
    let opened = ap node_tree c.in-Table.is in
    let r = replacing c.args.k c.args.a c.args.self.now es n c.index.result.now (sym opened ∙ c.self.view_is) c.requires.place c.requires.there c.index.ensures in
    let now : map as_pair c.replace.new.self ≡ with_pair c.args.k c.args.a (map as_pair es) = ap (map as_pair) c.in_ok-replace.ensures.ok ∙ r.is in
    let heavy = c.self.invariant.1 ∙ ap weight_of opened in
    let tall : c.height_with-height.result ≡ pairs_height (pairs (with_pair c.args.k c.args.a (map as_pair es))) = omega (arith, c.height_with-height.ensures, c.height-high.ensures.height, set_height es n c.args.k c.args.a c.index.result.now r.inside c.index.ensures r.same_key, ap (λ ps. pairs_height (pairs ps)) r.is) in
    let load : c.self.inside.weight + c.weight-heavy.result - c.weight-light.result ≡ pairs_weight (pairs (with_pair c.args.k c.args.a (map as_pair es))) + 5 = omega (arith, heavy, r.sizes.weight, c.weight-heavy.ensures.weight, c.weight-light.ensures.weight) in
    let count : c.len.result ≡ length es = omega (arith, c.len.ensures) in
    let was = subst IsRegular opened c.self.invariant.2 in
    r.keeps (map as_pair c.replace.new.self) c.len.result c.height_with-height.result (c.self.inside.weight + c.weight-heavy.result - c.weight-light.result) now (r.key was) c.height-high.ensures.regular was count tall load c.in_ok-check_sizes.ensures

pub returns-clause-ok : goal.returns-clause-ok
returns-clause-ok c =
    let es = c.in-Table.entries in
    let n = c.args.place in
    let opened = ap node_tree c.in-Table.is in
    let r = replacing c.args.k c.args.a c.args.self.now es n c.index.result.now (sym opened ∙ c.self.view_is) c.requires.place c.requires.there c.index.ensures in
    let now : map as_pair c.replace.new.self ≡ with_pair c.args.k c.args.a (map as_pair es) = ap (map as_pair) c.in_ok-replace.ensures.ok ∙ r.is in
    ap (λ ps. table (pairs ps)) (now ∙ ap (with_pair c.args.k c.args.a) r.same)

pub returns-clause-sizes : goal.returns-clause-sizes
returns-clause-sizes c =
    let es = c.in-Table.entries in
    let n = c.args.place in
    let opened = ap node_tree c.in-Table.is in
    let r = replacing c.args.k c.args.a c.args.self.now es n c.index.result.now (sym opened ∙ c.self.view_is) c.requires.place c.requires.there c.index.ensures in
    let heavy = c.self.invariant.1 ∙ ap weight_of opened in
    let tall : c.height_with-height.result ≡ pairs_height (pairs (with_pair c.args.k c.args.a (map as_pair es))) = omega (arith, c.height_with-height.ensures, c.height-high.ensures.height, set_height es n c.args.k c.args.a c.index.result.now r.inside c.index.ensures r.same_key, ap (λ ps. pairs_height (pairs ps)) r.is) in
    let load : c.self.inside.weight + c.weight-heavy.result - c.weight-light.result ≡ pairs_weight (pairs (with_pair c.args.k c.args.a (map as_pair es))) + 5 = omega (arith, heavy, r.sizes.weight, c.weight-heavy.ensures.weight, c.weight-light.ensures.weight) in
    let count : c.len.result ≡ length es = omega (arith, c.len.ensures) in
    sym (r.fault c.len.result c.height_with-height.result (c.self.inside.weight + c.weight-heavy.result - c.weight-light.result) count tall load) ∙ c.in_ok-check_sizes.ensures
