use Rattle.std.proofs.Common.{subst}
use Rattle.abc_meaning.specs.State.{wrong}
use Rattle.abc_state.specs.Agrees.{Halts}
use Rattle.abc_machine.proofs.Moving.{ends_stopped}
use Rattle.abc_machine.proofs.moves.halted.Goals as goal

pub returns-in-Wrong-clause-leads : goal.returns-in-Wrong-clause-leads
returns-in-Wrong-clause-leads c = λ units old new waiting left s g h.
    ends_stopped units old waiting c.args.halted.line wrong s g (subst (λ k. Halts c.args.halted.line k s g) c.in-Wrong.is h)
