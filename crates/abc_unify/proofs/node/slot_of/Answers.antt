use Rattle.std.proofs.Common.{◌≡◌, ◌∙◌, map, ap, sym}
use Rattle.abc_terms.specs.declared.term.Term.TheVariants as term
use Rattle.abc_unify.proofs.Forming.{number_is, text_is, list_is, table_is, compound_is, fields_in}
use Rattle.abc_unify.proofs.node.slot_of.Goals as goal

pub returns-in-Number-clause-means : goal.returns-in-Number-clause-means
returns-in-Number-clause-means c v g = number_is c.args.term.now v g c.in-Number.is

pub returns-in-Text-clause-means : goal.returns-in-Text-clause-means
returns-in-Text-clause-means c v g = text_is c.args.term.now v g c.in-Text.is

pub returns-in_ok-variables_of-in-Compound-clause-means : goal.returns-in_ok-variables_of-in-Compound-clause-means
returns-in_ok-variables_of-in-Compound-clause-means c v g =
    let xs = c.in_ok-variables_of-in-Compound.field-0 in
    let is : c.args.term.now ≡ term.Compound (map term.Var xs) = c.in-Compound.is ∙ ap term.Compound c.in_ok-variables_of-in-Compound.ensures in
    compound_is c.args.term.now v g xs is

pub returns-in_ok-variables_of-in-Compound-clause-inside : goal.returns-in_ok-variables_of-in-Compound-clause-inside
returns-in_ok-variables_of-in-Compound-clause-inside c n node =
    let xs = c.in_ok-variables_of-in-Compound.field-0 in
    let is : c.args.term.now ≡ term.Compound (map term.Var xs) = c.in-Compound.is ∙ ap term.Compound c.in_ok-variables_of-in-Compound.ensures in
    fields_in n c.args.term.now xs is node

pub returns-in-List-clause-means : goal.returns-in-List-clause-means
returns-in-List-clause-means c v g = list_is c.args.term.now v g c.variable.result (c.in-List.is ∙ ap term.List (sym c.get.ensures ∙ c.variable.ensures))

pub returns-in-Table-clause-means : goal.returns-in-Table-clause-means
returns-in-Table-clause-means c v g =
    let key : c.in-Table.key ≡ term.Var c.variable-in-Table.result = sym c.get-in-Table.ensures ∙ c.variable-in-Table.ensures in
    let associate : c.in-Table.associate ≡ term.Var c.variable-in-Table-2.result = sym c.get-in-Table-2.ensures ∙ c.variable-in-Table-2.ensures in
    table_is c.args.term.now v g c.variable-in-Table.result c.variable-in-Table-2.result
    (c.in-Table.is ∙ (ap (λ t. term.Table t c.in-Table.associate) key ∙ ap (term.Table (term.Var c.variable-in-Table.result)) associate))
