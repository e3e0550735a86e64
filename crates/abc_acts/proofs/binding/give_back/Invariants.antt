use Rattle.std.proofs.Common.{◌≡◌, List, Bool}
use Rattle.std.specs.Vec.Iter.{into_iter_items}
use Rattle.abc_num.specs.declared.lines.RawLine.{RawLine}
use Rattle.abc_meaning.specs.Bindings.{assign_all}
use Rattle.abc_state.specs.Views.{scope_of, state_of}
use Rattle.abc_acts.specs.Views.{held_of}
use Rattle.abc_acts.proofs.binding.give_back.Given as goal

abbrev pub invariant-loop-held : goal.invariant-loop-held
invariant-loop-held l = record {
  leads : (lines : List RawLine) (ended : Bool) → assign_all (scope_of l.scope) (held_of l.fn.all) (state_of l.fn.run l.fn.targets lines ended)
      ≡ assign_all (scope_of l.scope) (held_of (into_iter_items l.held-iterator)) (state_of l.run l.targets lines ended);
  left : l.run.left ≡ l.fn.run.left;
}
