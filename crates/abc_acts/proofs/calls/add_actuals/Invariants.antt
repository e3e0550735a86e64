use Rattle.std.proofs.Common.{◌≡◌, ◌≤◌, ◌++◌, drop, length, option_map}
use Rattle.std.specs.Vec.Iter.{into_iter_items}
use Rattle.abc_acts.specs.inner.Binding.{bindings_all}
use Rattle.abc_acts.proofs.calls.add_actuals.Given as goal

abbrev pub invariant-loop-actual : goal.invariant-loop-actual
invariant-loop-actual l = record {
  adds : option_map (λ bs. l.fn.found.items ++ bs) (bindings_all l.formals l.fn.actuals.items)
      ≡ option_map (λ bs. l.found.items ++ bs) (bindings_all (drop l.place l.formals) (into_iter_items l.actual-iterator));
  count : length (drop l.place l.formals) ≡ length (into_iter_items l.actual-iterator);
  within : l.place ≤ length l.formals;
}
