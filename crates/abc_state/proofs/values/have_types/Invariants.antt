use Rattle.std.proofs.Common.{◌≡◌, drop}
use Rattle.std.specs.List.{list_all}
use Rattle.abc_meaning.specs.Fits.{has_type}
use Rattle.abc_state.proofs.values.have_types.Given as goal

abbrev pub invariant-loop-value : goal.invariant-loop-value
invariant-loop-value l = list_all has_type l.values ≡ list_all has_type (drop l.value-index l.values)
