-- A text, a list or a table that is a value has no more characters, elements or pairs than a value may have.
use Rattle.std.proofs.Common.{◌≡◌, ◌≤◌, ℕ, List, length, subst, arith}
use Rattle.abc_num.specs.declared.limits.TheConstants.{MOST_ELEMENTS}
use Rattle.abc_value.specs.Tree.{Tree, text, list, table, trees, pairs}
use Rattle.abc_value.specs.Regular.{IsRegular, AreCharacters}
use Rattle.abc_value.proofs.trees.Rows.{count_trees, count_pairs_pairs}

pub text_short : (b : List ℕ) (t : Tree) → t ≡ text b → IsRegular t → AreCharacters b × (length b ≤ MOST_ELEMENTS)
unfolding IsRegular
text_short b t e h = let regular = subst IsRegular e h in (regular.1, regular.0.0)

pub list_short : (xs : List Tree) (t : Tree) → t ≡ list (trees xs) → IsRegular t → length xs ≤ MOST_ELEMENTS
unfolding IsRegular
list_short xs t e h = let small = (subst IsRegular e h).0.0 in omega (arith, small, count_trees xs)

pub table_short : (ps : List (Tree × Tree)) (t : Tree) → t ≡ table (pairs ps) → IsRegular t → length ps ≤ MOST_ELEMENTS
unfolding IsRegular
table_short ps t e h = let small = (subst IsRegular e h).0.0 in omega (arith, small, count_pairs_pairs ps)
