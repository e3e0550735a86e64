use Rattle.std.proofs.Common.{◌≡◌, List, ℕ, Bool, map, drop}
use Rattle.abc_num.specs.declared.lines.RawLine.{RawLine}
use Rattle.abc_meaning.specs.PutBack.{put_back}
use Rattle.abc_state.specs.Views.{at, formal_of, scope_of, state_of}
use Rattle.abc_acts.proofs.calls.put_back.Given as goal

abbrev pub invariant-loop-formal : goal.invariant-loop-formal
invariant-loop-formal l = record {
  leads : (line : ℕ) (lines : List RawLine) (ended : Bool) → put_back (at (scope_of l.scope) line) (map formal_of l.formals) l.names (state_of l.fn.run l.fn.targets lines ended)
      ≡ put_back (at (scope_of l.scope) line) (map formal_of (drop l.formal-index l.formals)) l.names (state_of l.run l.targets lines ended);
  left : l.run.left ≡ l.fn.run.left;
}
