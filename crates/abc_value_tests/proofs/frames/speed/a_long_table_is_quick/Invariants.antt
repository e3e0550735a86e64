use Rattle.abc_value.specs.Parts.{IsTable}
use Rattle.abc_value_tests.proofs.frames.speed.a_long_table_is_quick.Given as goal

abbrev pub invariant-loop-k : goal.invariant-loop-k
invariant-loop-k g l = IsTable l.squares

abbrev pub invariant-loop-k-2 : goal.invariant-loop-k-2
invariant-loop-k-2 g l = IsTable l.squares
