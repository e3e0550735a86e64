use Rattle.std.proofs.Common.{◌+◌, inl, refl, arith}
use Rattle.abc_pending.specs.Weights.{suite_size}
use Rattle.abc_pending.proofs.Growing.{grows_less}
use Rattle.abc_command_steps.proofs.commands.turns_over.Goals as goal

pub returns-in-None-clause-falls : goal.returns-in-None-clause-falls
returns-in-None-clause-falls c = λ units. inl (refl, omega arith)

pub returns-clause-falls : goal.returns-clause-falls
returns-clause-falls c = λ units.
    let n = suite_size c.args.suite.now in
    grows_less units c.turn_over.result c.turn_over.new.run.left c.args.run.now.left (4 + n + n) (2 + n) (omega arith) c.turn_over.ensures.falls
