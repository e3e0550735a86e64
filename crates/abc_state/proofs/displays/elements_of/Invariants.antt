use Rattle.std.proofs.Common.{◌≡◌, ◌≤◌, ◌++◌, drop, length}
use Rattle.std.specs.List.{flat_map}
use Rattle.abc_num.specs.declared.limits.TheConstants.{MOST_ELEMENTS}
use Rattle.abc_state.specs.Views.{filler_elements}
use Rattle.abc_state.proofs.displays.elements_of.Given as goal

abbrev pub invariant-loop-filler : goal.invariant-loop-filler
invariant-loop-filler l =
    (flat_map filler_elements l.fillers ≡ l.all.items ++ flat_map filler_elements (drop l.filler-index l.fillers)) × (length l.all.items ≤ MOST_ELEMENTS)
