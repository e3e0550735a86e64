use Rattle.std.proofs.Common.{◌≡◌, map, subst, ap, ◌∙◌, IfOk}
use Rattle.abc_value.specs.Forms.{a_table, both}
use Rattle.abc_meaning.specs.Fits.{forms_in}
use Rattle.abc_state.specs.inner.Examples.{key_example, associate_example}
use Rattle.abc_state.proofs.ExampleForms.{table_example}
use Rattle.abc_state.proofs.examples.+example.Goals as goal

pub example_shape-returns-in_ok-common-in-Table-2 : goal.example_shape-returns-in_ok-common-in-Table-2
example_shape-returns-in_ok-common-in-Table-2 t c =
    let k : c.in_ok-common-in-Table.field-0 ≡ forms_in (map key_example c.in-Table.pairs) =
    c.in_ok-common-in-Table.ensures ∙ ap forms_in (c.in_ok-keys-in-Table.ensures ∙ ap (map key_example) c.as_slice-in-Table.ensures) in
    let a : c.in_ok-common-in-Table-2.field-0 ≡ forms_in (map associate_example c.in-Table.pairs) =
    c.in_ok-common-in-Table-2.ensures ∙ ap forms_in (c.in_ok-associates-in-Table.ensures ∙ ap (map associate_example) c.as_slice-in-Table-2.ensures) in
    subst (λ f. IfOk c.table.result (λ o. o ≡ f)) ((λ i. both a_table (k i) (a i)) ∙ table_example c.args.example.now c.in-Table.pairs c.in-Table.is) c.table.ensures
