use Rattle.std.proofs.Common.{◌≡◌, ◌≤◌, ◌++◌, drop, length}
use Rattle.std.specs.List.{flat_map}
use Rattle.abc_num.specs.declared.limits.TheConstants.{MOST_ELEMENTS}
use Rattle.abc_state.specs.Views.{stretch_text}
use Rattle.abc_state.proofs.texts.bytes_of.Given as goal

abbrev pub invariant-loop-stretch : goal.invariant-loop-stretch
invariant-loop-stretch l =
    (flat_map stretch_text l.stretches ≡ l.all.items ++ flat_map stretch_text (drop l.stretch-index l.stretches)) × (length l.all.items ≤ MOST_ELEMENTS)
