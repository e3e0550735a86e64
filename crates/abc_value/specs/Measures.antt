-- Sizes that fall from a value to the row of its parts, and from the row to each part.
use Rattle.std.specs.Prelude.{ℕ, List, map, ◌+◌}
use Rattle.abc_value.specs.Tree.{Tree, trees, pairs}
use Rattle.abc_value.specs.Sizes.{height_of, trees_height, pairs_height}
use Rattle.abc_value.specs.View.{as_pair}
use Rattle.abc_value.specs.declared.value.Entry.{Entry}

abbrev pub value_size : Tree → ℕ
value_size t = height_of t + height_of t + 1

abbrev pub elements_size : List Tree → ℕ
elements_size ts = trees_height (trees ts) + trees_height (trees ts)

abbrev pub entries_size : List Entry → ℕ
entries_size es = pairs_height (pairs (map as_pair es)) + pairs_height (pairs (map as_pair es))
