use Rattle.std.proofs.Common.{◌≡◌, List, Bool, Some, map}
use Rattle.std.specs.Vec.Iter.{into_iter_items}
use Rattle.abc_num.specs.declared.lines.RawLine.{RawLine}
use Rattle.abc_meaning.specs.Bindings.{assign_all}
use Rattle.abc_state.specs.Views.{scope_of, state_of}
use Rattle.abc_acts.proofs.binding.assign_bindings.Given as goal

abbrev pub invariant-loop-name : goal.invariant-loop-name
invariant-loop-name l = record {
  leads : (lines : List RawLine) (ended : Bool) → assign_all (scope_of l.scope) (map (λ b. (b.0, Some b.1)) l.fn.all.items) (state_of l.fn.run l.fn.targets lines ended)
      ≡ assign_all (scope_of l.scope) (map (λ b. (b.0, Some b.1)) (into_iter_items l.name-iterator)) (state_of l.run l.targets lines ended);
  left : l.run.left ≡ l.fn.run.left;
}
