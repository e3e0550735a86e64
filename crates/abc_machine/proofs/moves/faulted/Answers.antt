use Rattle.abc_meaning.specs.State.{faulty}
use Rattle.abc_machine.proofs.Moving.{ends_stopped}
use Rattle.abc_machine.proofs.moves.faulted.Goals as goal

pub returns-in_default-clause-leads : goal.returns-in_default-clause-leads
returns-in_default-clause-leads c = λ units old new waiting left s g h.
    ends_stopped units old waiting c.args.line (faulty c.args.fault) s g (h c.in_default.not-Memory)
