use Rattle.std.proofs.Common.{◌≡◌, ℕ, List, Bool, true, map, drop}
use Rattle.abc_num.specs.declared.lines.RawLine.{RawLine}
use Rattle.abc_value.specs.Parts.{parts_of}
use Rattle.abc_meaning.specs.Changing.{put_parts}
use Rattle.abc_state.specs.Views.{at, address_of, scope_of, state_of}
use Rattle.abc_acts.specs.inner.Fields.{have_match, all_fields_at}
use Rattle.abc_acts.proofs.fields.+putting.Given as goal

abbrev pub invariant-put_each-loop-place : goal.invariant-put_each-loop-place
invariant-put_each-loop-place l = record {
  match : have_match (map address_of l.spots) (parts_of l.compound) ≡ true → have_match (map address_of (drop l.place l.spots)) (drop l.place (parts_of l.compound)) ≡ true;
  leads : have_match (map address_of l.spots) (parts_of l.compound) ≡ true → (line : ℕ) (lines : List RawLine) (ended : Bool)
      → put_parts (at (scope_of l.scope) line) (all_fields_at (map address_of l.spots) (parts_of l.compound)) (state_of l.fn.run l.fn.targets lines ended)
      ≡ put_parts (at (scope_of l.scope) line) (all_fields_at (map address_of (drop l.place l.spots)) (drop l.place (parts_of l.compound))) (state_of l.run l.targets lines ended);
  left : l.run.left ≡ l.fn.run.left;
}
