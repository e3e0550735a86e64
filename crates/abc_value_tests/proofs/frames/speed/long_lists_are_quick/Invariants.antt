use Rattle.abc_value.specs.Parts.{IsList}
use Rattle.abc_value_tests.proofs.frames.speed.long_lists_are_quick.Given as goal

abbrev pub invariant-loop-k : goal.invariant-loop-k
invariant-loop-k g l = IsList l.rising × IsList l.falling
