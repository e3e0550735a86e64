use Rattle.std.proofs.Common.{◌≡◌, ◌≤◌, ◌++◌, drop, length}
use Rattle.abc_num.specs.declared.limits.TheConstants.{MOST_ELEMENTS}
use Rattle.abc_value.specs.Parts.{parts_of}
use Rattle.abc_state.proofs.displays.add_parts.Given as goal

abbrev pub invariant-loop-place : goal.invariant-loop-place
invariant-loop-place l =
    (l.fn.all.items ++ parts_of l.list ≡ l.all.items ++ drop l.place (parts_of l.list)) × (length l.fn.all.items ≤ MOST_ELEMENTS → length l.all.items ≤ MOST_ELEMENTS)
