use Rattle.std.proofs.Common.{◌≡◌, []}
use Rattle.std.specs.Vec.Iter.{into_iter_items}
use Rattle.abc_meaning.specs.Calls.{with_bindings}
use Rattle.abc_acts.proofs.calls.names_of.Given as goal

abbrev pub invariant-loop-name : goal.invariant-loop-name
invariant-loop-name l = with_bindings l.fn.all.items [] ≡ with_bindings (into_iter_items l.name-iterator) l.names
