use Rattle.std.proofs.Common.{◌≡◌, List, Bool, map, drop}
use Rattle.std.specs.List.{list_all}
use Rattle.abc_num.specs.declared.lines.RawLine.{RawLine}
use Rattle.abc_meaning.specs.State.{row}
use Rattle.abc_meaning.specs.Changing.{parts_all}
use Rattle.abc_meaning.specs.PutBack.{has_value}
use Rattle.abc_state.specs.Views.{address_of, scope_of, state_of}
use Rattle.abc_acts.proofs.changes.+values.Given as goal

abbrev pub invariant-have_values-loop-spot : goal.invariant-have_values-loop-spot
invariant-have_values-loop-spot l = (lines : List RawLine) (ended : Bool)
    → list_all (has_value (scope_of l.scope) (state_of l.run l.targets lines ended)) (parts_all (row (map address_of l.spots)))
    ≡ list_all (has_value (scope_of l.scope) (state_of l.run l.targets lines ended)) (parts_all (row (map address_of (drop l.spot-index l.spots))))
