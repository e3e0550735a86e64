use Rattle.std.proofs.Common.{◌≡◌, List, ℕ, Bool, map, drop}
use Rattle.abc_num.specs.declared.lines.RawLine.{RawLine}
use Rattle.abc_frames.specs.Maps.{Targets}
use Rattle.abc_meaning.specs.State.{row}
use Rattle.abc_meaning.specs.Here.{Scope}
use Rattle.abc_meaning.specs.Changing.{parts_all}
use Rattle.abc_meaning.specs.PutBack.{mark_all}
use Rattle.abc_state.specs.Views.{at, address_of, state_of}
use Rattle.abc_acts.proofs.changes.+mark.Given as goal

abbrev pub invariant-mark_spots-loop-spot : goal.invariant-mark_spots-loop-spot
invariant-mark_spots-loop-spot l = record {
  leads : (line : ℕ) (scope : Scope) (targets : Targets) (lines : List RawLine) (ended : Bool) → mark_all (at scope line) (parts_all (row (map address_of l.spots))) (state_of l.fn.run targets lines ended)
      ≡ mark_all (at scope line) (parts_all (row (map address_of (drop l.spot-index l.spots)))) (state_of l.run targets lines ended);
  left : l.run.left ≡ l.fn.run.left;
}
