use Rattle.std.proofs.Common.{◌≡◌, length}
use Rattle.abc_formula.specs.inner.TestSteps.{fold_test}
use Rattle.abc_formula.proofs.wrapping.wrapped_by_all.Given as goal

abbrev pub invariant-loop-frame : goal.invariant-loop-frame
invariant-loop-frame l = fold_test l.frames l.test ≡ fold_test l.initial.frames l.initial.test

abbrev pub decreases-loop-frame : goal.decreases-loop-frame
decreases-loop-frame l = length l.frames
