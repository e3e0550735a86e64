use Rattle.std.proofs.Common.{◌≡◌, ◌≤◌, Some, drop, take, map, length, vec_len}
use Rattle.std.specs.Prelude.{reverse}
use Rattle.abc_tree.specs.RegularItems.{numbers}
use Rattle.abc_meaning.specs.PutBack.{entry}
use Rattle.abc_state.specs.Views.{actual_of, formal_of}
use Rattle.abc_acts.proofs.calls.entry_of.Given as goal

abbrev pub invariant-actuals : goal.invariant-actuals
invariant-actuals l = record {
  rest : l.rest.items ≡ take (length l.rest.items) l.fn.actuals.items;
  within : length l.rest.items ≤ length l.fn.actuals.items;
  begun : entry (numbers (drop (length l.rest.items) l.ids)) (map actual_of (drop (length l.rest.items) l.fn.actuals.items))
      ≡ Some (record { names = l.names; formals = map formal_of (reverse l.formals.items) });
}

abbrev pub decreases-actuals : goal.decreases-actuals
decreases-actuals l = vec_len l.rest
