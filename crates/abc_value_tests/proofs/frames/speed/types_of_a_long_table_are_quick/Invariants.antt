use Rattle.abc_value.specs.Parts.{IsTable}
use Rattle.abc_value_tests.proofs.frames.speed.types_of_a_long_table_are_quick.Given as goal

abbrev pub invariant-loop-k : goal.invariant-loop-k
invariant-loop-k g l = IsTable l.squares
