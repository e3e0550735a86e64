use Rattle.std.proofs.Common.{List, sym, ap, ◌∙◌, slice_get}
use Rattle.std.specs.Option.{option_map}
use Rattle.abc_value.specs.declared.value.Entry.{Entry}
use Rattle.abc_value.specs.Parts.{keys_of}
use Rattle.abc_value.specs.View.{node_tree}
use Rattle.abc_value.proofs.trees.Rows.{nth_of_keys}
use Rattle.abc_value.proofs.value.Value.key.Goals as goal

pub returns-in-Table : goal.returns-in-Table
returns-in-Table c =
    c.nth_key.ensures ∙ ap (λ (es : List Entry). option_map (λ (e : Entry). e.key) (slice_get es c.args.i)) c.items.ensures ∙ nth_of_keys c.in-Table.entries c.args.i
    ∙ ap (λ n. slice_get (keys_of (node_tree n)) c.args.i) (sym c.in-Table.is) ∙ ap (λ t. slice_get (keys_of t) c.args.i) c.self.view_is
