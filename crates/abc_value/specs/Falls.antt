-- Each part of a value is less than the value, and so are the rows of its parts.
use Rattle.std.specs.Prelude.{max, List, [], ◌∷◌, ◌+◌, ◌≤◌}
use Rattle.std.proofs.Common.{arith}
use denote.Param.Weighed.{most}
use Rattle.abc_value.specs.Tree.{Tree}
use Rattle.abc_value.specs.Measures.{value_size, elements_size, entries_size}
use Rattle.abc_value.specs.View.{node_tree}
use Rattle.abc_value.specs.declared.value.Entry.{Entry}
use Rattle.abc_value.specs.declared.value.Node.{Node}
use Rattle.abc_value.specs.declared.value.Node.TheVariants.{Number, Text, Compound, List as Listed, Table}
use Rattle.abc_value.specs.declared.elements.Elements.TheDeep.{deep-Node, deep-Entry}

most-size : (kids : List Tree) → most (λ t. value_size t + 1) kids ≤ elements_size kids
most-size [] = omega arith
most-size (t ∷ ts) = omega (arith, most-size ts)

pub deep-elements : (kids : List Tree) → max (most (λ t. value_size t + 1) kids) 0 ≤ elements_size kids
deep-elements kids = omega (arith, most-size kids)

most-pairs : (es : List Entry) → most deep-Entry es ≤ entries_size es
most-pairs [] = omega arith
most-pairs (e ∷ es) = omega (arith, most-pairs es)

pub deep-entries : (es : List Entry) → max (most deep-Entry es) 0 ≤ entries_size es
deep-entries es = omega (arith, most-pairs es)

pub deep-height : (n : Node) → max (deep-Node n) 0 ≤ value_size (node_tree n)
deep-height (Number n) = omega arith
deep-height (Text v) = omega arith
deep-height (Compound v) = omega (arith, most-size v)
deep-height (Listed v) = omega arith
deep-height (Table v) = omega arith
