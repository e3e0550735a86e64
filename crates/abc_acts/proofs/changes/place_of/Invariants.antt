use Rattle.std.proofs.Common.{◌≡◌, ◌+◌, ℕ, map, drop}
use Rattle.abc_meaning.specs.Changing.{formal_named}
use Rattle.abc_state.specs.Views.{formal_of}
use Rattle.abc_acts.specs.inner.Changing.{IsFirstOf}
use Rattle.abc_acts.proofs.changes.place_of.Given as goal

abbrev pub invariant-loop-place : goal.invariant-loop-place
invariant-loop-place l = record {
  none : formal_named l.name (map formal_of l.formals) ≡ formal_named l.name (map formal_of (drop l.place l.formals));
  first : (n : ℕ) → IsFirstOf l.name n (drop l.place l.formals) → IsFirstOf l.name (l.place + n) l.formals;
}
