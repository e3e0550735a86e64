-- Worked displays.
use Rattle.std.proofs.Common.{◌≡◌, ℕ, ◌+◌, ◌<◌, ◌≤◌, [], ◌∷◌, None, Some, refl, arith}
use Rattle.std.proofs.lemmas.Bool.Decides.{nat_tests}
use Rattle.abc_num.specs.declared.limits.TheConstants.{MOST_ELEMENTS, MOST_VALUE_HEIGHT}
use Rattle.abc_value.specs.declared.faults.ValueFault.TheVariants.{TooDeep}
use Rattle.abc_value.specs.Tree.{Tree, list, trees, empty, table_of}
use Rattle.abc_value.specs.Sizes.{count, height_of, trees_height, trees_weight, sizes_fault, size_fault}
use Rattle.abc_value.specs.Changes.{add, in_order, placed}
use Rattle.abc_value.specs.DisplayLaws.{one}
use Rattle.abc_value.proofs.lists.Adding.{add_adds}
use Rattle.abc_value.proofs.trees.Rows.{count_trees}

too_deep : (m h w : ℕ) → m ≤ MOST_ELEMENTS → MOST_VALUE_HEIGHT < h → sizes_fault m h w ≡ Some TooDeep
unfolding sizes_fault
too_deep m h w k l = grind (arith, nat_tests)

pub depth_first : (big c : Tree) → height_of c ≡ MOST_VALUE_HEIGHT → size_fault (list (trees (in_order (big ∷ big ∷ c ∷ [])))) ≡ Some TooDeep
unfolding size_fault
depth_first big c h =
    let xs = in_order (big ∷ c ∷ []) in
    let a = add_adds big (c ∷ []) in
    let b = add_adds big xs in
    too_deep (count (trees (add big xs))) (trees_height (trees (add big xs))) (trees_weight (trees (add big xs)) + 5)
    (omega (arith, count_trees (add big xs), b.size, a.size)) (omega (arith, b.height, a.height, h))

pub nothing_counts : (c : Tree) → size_fault (table_of (placed ((one, c) ∷ (one, empty) ∷ []))) ≡ None
unfolding size_fault sizes_fault
nothing_counts c = refl
