use Rattle.std.proofs.Common.{◌≡◌, true, subst}
use Rattle.abc_outside.specs.Lines.{none_yet, Called}
use Rattle.abc_meaning.specs.Laws.{wants_line}
use Rattle.abc_pending.specs.Steps.{state_with}
use Rattle.abc_machine.specs.Machine.{pending}
use Rattle.abc_machine.proofs.Starting.{with_left}
use Rattle.abc_machine.proofs.machine.Machine.step.Goals as goal

pub returns-clause-calls : goal.returns-clause-calls
returns-clause-calls g c =
    subst
    (λ left. Called g.L.Lines.reads_on (λ l. (l ≡ c.args.lines.now) × (wants_line (pending c.args.units.now c.args.self.now (with_left left (state_with c.args.self.now.run c.args.targets.now none_yet))) ≡ true)) c.args.lines.now c.turn-stepped.new.lines)
    c.saturating_sub-left.ensures c.turn-stepped.ensures.calls
