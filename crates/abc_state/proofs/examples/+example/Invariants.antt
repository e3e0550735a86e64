use Rattle.std.proofs.Common.{◌≡◌, ◌++◌, map, drop}
use Rattle.abc_meaning.specs.Fits.{example_form}
use Rattle.abc_state.specs.inner.Examples.{fill_example, key_example, associate_example}
use Rattle.abc_state.proofs.examples.+example.Given as goal

abbrev pub invariant-of_fields-loop-field : goal.invariant-of_fields-loop-field
invariant-of_fields-loop-field l = map example_form l.fields ≡ l.shapes.items ++ map example_form (drop l.field-index l.fields)

abbrev pub invariant-of_fills-loop-fill : goal.invariant-of_fills-loop-fill
invariant-of_fills-loop-fill l = map fill_example l.fills ≡ l.shapes.items ++ map fill_example (drop l.fill-index l.fills)

abbrev pub invariant-of_keys-loop-pair : goal.invariant-of_keys-loop-pair
invariant-of_keys-loop-pair l = map key_example l.pairs ≡ l.shapes.items ++ map key_example (drop l.pair-index l.pairs)

abbrev pub invariant-of_associates-loop-pair : goal.invariant-of_associates-loop-pair
invariant-of_associates-loop-pair l = map associate_example l.pairs ≡ l.shapes.items ++ map associate_example (drop l.pair-index l.pairs)
