use Rattle.std.proofs.Common.{map, sym, ap, ◌∙◌, arith}
use Rattle.std.proofs.lemmas.List.{length-map}
use Rattle.abc_value.specs.Sizes.{length_of}
use Rattle.abc_value.specs.View.{node_tree, as_pair}
use Rattle.abc_value.proofs.trees.Rows.{count_trees, count_pairs_pairs}
use Rattle.abc_value.proofs.value.Value.len.Goals as goal

pub returns-in-Compound-clause-length : goal.returns-in-Compound-clause-length
returns-in-Compound-clause-length c =
    let is = ap (λ n. length_of (node_tree n)) (sym c.in-Compound.is) ∙ ap length_of c.self.view_is in
    omega (arith, is, count_trees c.in-Compound.parts)

pub returns-in-List-clause-length : goal.returns-in-List-clause-length
returns-in-List-clause-length c =
    let is = ap (λ n. length_of (node_tree n)) (sym c.in-List.is) ∙ ap length_of c.self.view_is in
    omega (arith, is, count_trees c.in-List.parts)

pub returns-in-Table-clause-length : goal.returns-in-Table-clause-length
returns-in-Table-clause-length c =
    let is = ap (λ n. length_of (node_tree n)) (sym c.in-Table.is) ∙ ap length_of c.self.view_is in
    omega (arith, is, count_pairs_pairs (map as_pair c.in-Table.entries), length-map c.in-Table.entries as_pair)
