use Rattle.std.proofs.Common.{◌≡◌, subst, sym, ap, ◌∙◌, arith, refl, List}
use Rattle.std.specs.List.{Contains}
use Rattle.std.proofs.lemmas.List.{get_or_read}
use Rattle.abc_value.specs.Tree.{Tree, list, trees}
use Rattle.abc_value.specs.Sizes.{height_of, weight_of, trees_height}
use Rattle.abc_value.specs.Regular.{IsRegular}
use Rattle.abc_value.specs.Parts.{parts_of}
use Rattle.abc_value.specs.Changes.{without}
use Rattle.abc_value.specs.View.{node_tree}
use Rattle.abc_value.proofs.trees.Rows.{listed_trees}
use Rattle.abc_value.proofs.lists.Adding.{list_parts}
use Rattle.abc_value.proofs.lists.Removing.{remove_takes, remove_placed, nowhere, taken_invariant}
use Rattle.abc_value.proofs.value.Value.remove.Goals as goal

pub place_of-place-requires-clause-ordered : goal.place_of-place-requires-clause-ordered
place_of-place-requires-clause-ordered c =
    (list_parts c.in-List.items (node_tree c.self.inside.node) (ap node_tree c.in-List.is) c.self.invariant.2).0

pub place_of-place-requires-clause-regular : goal.place_of-place-requires-clause-regular
place_of-place-requires-clause-regular c =
    (list_parts c.in-List.items (node_tree c.self.inside.node) (ap node_tree c.in-List.is) c.self.invariant.2).1

pub returns-then-not-is_at-clause-fault : goal.returns-then-not-is_at-clause-fault
returns-then-not-is_at-clause-fault c = λ _.
    let xs = c.in-List.items in
    let parts = list_parts xs (node_tree c.self.inside.node) (ap node_tree c.in-List.is) c.self.invariant.2 in
    let same : xs ≡ parts_of c.args.self.now = sym (listed_trees xs) ∙ ap parts_of (ap node_tree (sym c.in-List.is) ∙ c.self.view_is) in
    let P : List Tree → Type 0 = λ ys. Contains ys c.args.e.now in (
      refl,
      λ k. nowhere c.args.e.now xs c.place_of-place.result parts.1 parts.0 c.place_of-place.ensures
          c.if-not-is_at.ensures.no (subst P (sym same) k),
    )

pub height_without-self-inside-requires : goal.height_without-self-inside-requires
height_without-self-inside-requires c =
    let xs = c.in-List.items in
    let found = c.if-not-is_at.ensures.yes in
    let gone = get_or_read xs c.place_of-place.result c.in_ok-gone.gone found.0 c.in_ok-gone.ensures.value c.args.e.now ∙ found.1 in
    let t = remove_takes c.args.e.now xs c.place_of-place.result found.0 (sym found.1) in
    let now = ap (λ ys. trees_height (trees ys)) (c.in_ok-gone.ensures.ok) in
    let high = c.self.invariant.0 ∙ ap (λ n. height_of (node_tree n)) c.in-List.is in
    omega (arith, t.height, now, high, c.height.ensures.height, ap height_of gone)

pub overflow_sub-self : goal.overflow_sub-self
overflow_sub-self c =
    let xs = c.in-List.items in
    let found = c.if-not-is_at.ensures.yes in
    let gone = get_or_read xs c.place_of-place.result c.in_ok-gone.gone found.0 c.in_ok-gone.ensures.value c.args.e.now ∙ found.1 in
    let t = remove_takes c.args.e.now xs c.place_of-place.result found.0 (sym found.1) in
    let heavy = c.self.invariant.1 ∙ ap (λ n. weight_of (node_tree n)) c.in-List.is in
    omega (arith, t.weight, heavy, c.weight.ensures.weight, ap weight_of gone)

pub invariant_of-self-2 : goal.invariant_of-self-2
invariant_of-self-2 c =
    let xs = c.in-List.items in
    let found = c.if-not-is_at.ensures.yes in
    let gone = get_or_read xs c.place_of-place.result c.in_ok-gone.gone found.0 c.in_ok-gone.ensures.value c.args.e.now ∙ found.1 in
    let opened = ap node_tree c.in-List.is in
    taken_invariant c.args.e.now xs c.remove.new.self c.place_of-place.result c.height_without-self-inside.result c.self.inside.weight c.weight.result c.in_ok-gone.ensures.ok found.0 (sym found.1)
    (subst IsRegular opened c.self.invariant.2) (c.height_without-self-inside.ensures) (c.self.invariant.1 ∙ ap weight_of opened) (c.weight.ensures.weight ∙ ap weight_of gone)

pub returns-clause-ok : goal.returns-clause-ok
returns-clause-ok c =
    let xs = c.in-List.items in
    let found = c.if-not-is_at.ensures.yes in
    let same : xs ≡ parts_of c.args.self.now = sym (listed_trees xs) ∙ ap parts_of (ap node_tree (sym c.in-List.is) ∙ c.self.view_is) in
    ap (λ ys. list (trees ys)) (c.in_ok-gone.ensures.ok ∙ remove_placed c.args.e.now xs c.place_of-place.result c.place_of-place.ensures found.0 (sym found.1) ∙ ap (without c.args.e.now) same)

pub returns-clause-there : goal.returns-clause-there
returns-clause-there c =
    let xs = c.in-List.items in
    let found = c.if-not-is_at.ensures.yes in
    let same : xs ≡ parts_of c.args.self.now = sym (listed_trees xs) ∙ ap parts_of (ap node_tree (sym c.in-List.is) ∙ c.self.view_is) in
    let P : List Tree → Type 0 = λ ys. Contains ys c.args.e.now in
    subst P same (c.place_of-place.result, found.0, found.1)
