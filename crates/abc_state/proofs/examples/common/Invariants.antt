use Rattle.std.proofs.Common.{◌≡◌, Some, vec_len}
use Rattle.abc_value.specs.Forms.{anything}
use Rattle.abc_state.specs.inner.Examples.{forms_onto}
use Rattle.abc_state.proofs.examples.common.Given as goal

abbrev pub invariant-shapes : goal.invariant-shapes
invariant-shapes l = forms_onto l.fn.shapes.items (Some anything) ≡ forms_onto l.rest.items l.shape

abbrev pub decreases-shapes : goal.decreases-shapes
decreases-shapes l = vec_len l.rest
