use Rattle.std.proofs.Common.{◌≡◌, List, ℕ, Bool, map, drop}
use Rattle.abc_num.specs.declared.lines.RawLine.{RawLine}
use Rattle.abc_meaning.specs.State.{row}
use Rattle.abc_meaning.specs.Changing.{parts_all, delete}
use Rattle.abc_state.specs.Views.{at, address_of, scope_of, state_of}
use Rattle.abc_acts.proofs.changes.+delete.Given as goal

abbrev pub invariant-delete_all-loop-spot : goal.invariant-delete_all-loop-spot
invariant-delete_all-loop-spot l = record {
  leads : (line : ℕ) (lines : List RawLine) (ended : Bool) → delete (at (scope_of l.scope) line) (parts_all (row (map address_of l.spots))) (state_of l.fn.run l.fn.targets lines ended)
      ≡ delete (at (scope_of l.scope) line) (parts_all (row (map address_of (drop l.spot-index l.spots)))) (state_of l.run l.targets lines ended);
  left : l.run.left ≡ l.fn.run.left;
}
