use Rattle.abc_value.specs.Parts.{IsList}
use Rattle.abc_value_tests.proofs.frames.speed.a_changed_copy_leaves_the_list.Given as goal

abbrev pub invariant-loop-k : goal.invariant-loop-k
invariant-loop-k g l = IsList l.all
