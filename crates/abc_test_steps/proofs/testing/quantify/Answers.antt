use Rattle.std.proofs.Common.{◌+◌, inl, arith}
use Rattle.abc_pending.specs.Weights.{test_size}
use Rattle.abc_pending.proofs.Growing.{grows_less}
use Rattle.abc_test_steps.proofs.testing.quantify.Goals as goal

pub returns-in-None-clause-falls : goal.returns-in-None-clause-falls
returns-in-None-clause-falls c = λ units. inl (c.in_ok-give_back-in-None.ensures.left, omega arith)

pub returns-clause-falls : goal.returns-clause-falls
returns-clause-falls c = λ units.
    let n = test_size c.args.test.now in
    grows_less units c.test_element.result c.test_element.new.run.left c.args.run.now.left (3 + n + n) (2 + n) (omega arith) c.test_element.ensures.falls
