use Rattle.std.proofs.Common.{◌≡◌, ◌++◌}
use Rattle.abc_meaning.specs.Acts.{newlines}
use Rattle.abc_state.proofs.run.add_ends.Given as goal

abbrev pub invariant-loop-place : goal.invariant-loop-place
invariant-loop-place l = l.bytes.items ≡ l.fn.bytes.items ++ newlines l._place
