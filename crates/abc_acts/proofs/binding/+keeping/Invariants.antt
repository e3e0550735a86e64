use Rattle.std.proofs.Common.{◌≡◌, ◌++◌, List, Bool, map, drop}
use Rattle.abc_num.specs.declared.lines.RawLine.{RawLine}
use Rattle.abc_tree.specs.Lists.{flat}
use Rattle.abc_tree.specs.RegularItems.{bound_names}
use Rattle.abc_meaning.specs.Bindings.{held}
use Rattle.abc_state.specs.Views.{scope_of, state_of}
use Rattle.abc_acts.specs.Views.{held_of}
use Rattle.abc_acts.proofs.binding.+keeping.Given as goal

abbrev pub invariant-keep_bounds-loop-part : goal.invariant-keep_bounds-loop-part
invariant-keep_bounds-loop-part l = (lines : List RawLine) (ended : Bool)
    → held_of l.fn.all ++ held (scope_of l.scope) (flat (map bound_names l.parts)) (state_of l.run l.targets lines ended)
    ≡ held_of l.all ++ held (scope_of l.scope) (flat (map bound_names (drop l.part-index l.parts))) (state_of l.run l.targets lines ended)
