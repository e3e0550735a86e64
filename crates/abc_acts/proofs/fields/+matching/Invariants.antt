use Rattle.std.proofs.Common.{◌≡◌, map, drop}
use Rattle.abc_value.specs.Parts.{parts_of}
use Rattle.abc_state.specs.Views.{address_of}
use Rattle.abc_acts.specs.inner.Fields.{have_match}
use Rattle.abc_acts.proofs.fields.+matching.Given as goal

abbrev pub invariant-match_fields-loop-place : goal.invariant-match_fields-loop-place
invariant-match_fields-loop-place l =
    have_match (map address_of l.spots) (parts_of l.compound) ≡ have_match (map address_of (drop l.place l.spots)) (drop l.place (parts_of l.compound))
