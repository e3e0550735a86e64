use Rattle.std.proofs.Common.{List, sym, ap, ◌∙◌, slice_get}
use Rattle.std.specs.Option.{option_map}
use Rattle.abc_value.specs.declared.value.Entry.{Entry}
use Rattle.abc_value.specs.Parts.{parts_of}
use Rattle.abc_value.specs.View.{node_tree}
use Rattle.abc_value.proofs.trees.Rows.{listed_trees, nth_of_associates}
use Rattle.abc_value.proofs.value.Value.part.Goals as goal

pub returns-in-Table : goal.returns-in-Table
returns-in-Table c =
    c.nth_associate.ensures ∙ ap (λ (es : List Entry). option_map (λ (e : Entry). e.associate) (slice_get es c.args.i)) c.items-in-Table.ensures ∙ nth_of_associates c.in-Table.entries c.args.i
    ∙ ap (λ n. slice_get (parts_of (node_tree n)) c.args.i) (sym c.in-Table.is) ∙ ap (λ t. slice_get (parts_of t) c.args.i) c.self.view_is

pub returns-in-Compound : goal.returns-in-Compound
returns-in-Compound c =
    c.nth.ensures ∙ ap (λ xs. slice_get xs c.args.i) (sym (listed_trees c.in-Compound.parts))
    ∙ ap (λ n. slice_get (parts_of (node_tree n)) c.args.i) (sym c.in-Compound.is) ∙ ap (λ t. slice_get (parts_of t) c.args.i) c.self.view_is

pub returns-in-List : goal.returns-in-List
returns-in-List c =
    c.nth-in-List.ensures ∙ ap (λ xs. slice_get xs c.args.i) (c.items.ensures ∙ sym (listed_trees c.in-List.parts))
    ∙ ap (λ n. slice_get (parts_of (node_tree n)) c.args.i) (sym c.in-List.is) ∙ ap (λ t. slice_get (parts_of t) c.args.i) c.self.view_is
