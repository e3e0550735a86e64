use Rattle.std.proofs.Common.{sym, ap, ◌∙◌}
use Rattle.abc_outside.specs.Lines.{none_yet}
use Rattle.abc_outside.proofs.Called.{called_for}
use Rattle.abc_meaning.specs.Laws.{wants_line}
use Rattle.abc_state.specs.Views.{scope_of}
use Rattle.abc_pending.specs.Steps.{state_with}
use Rattle.abc_machine.specs.Machine.{pending_from, waiting}
use Rattle.abc_machine.proofs.machine.Machine.turn.Goals as goal

pub returns-in-Ok-Goes-clause-calls : goal.returns-in-Ok-Goes-clause-calls
returns-in-Ok-Goes-clause-calls g c =
    called_for g.L.Lines.reads_on _ _ c.args.lines.now c.advance-moved.new.lines
    (λ l asks. (asks.0, ap (λ doing. wants_line (pending_from c.args.units.now (scope_of c.args.self.now.scope) doing (waiting c.args.self.now) (state_with c.args.self.now.run c.args.targets.now none_yet))) (sym c.in-Some.ensures.value) ∙ asks.1))
    c.advance-moved.ensures.calls

pub returns-in-Ok-Ends-clause-calls : goal.returns-in-Ok-Ends-clause-calls
returns-in-Ok-Ends-clause-calls g c =
    called_for g.L.Lines.reads_on _ _ c.args.lines.now c.advance-moved.new.lines
    (λ l asks. (asks.0, ap (λ doing. wants_line (pending_from c.args.units.now (scope_of c.args.self.now.scope) doing (waiting c.args.self.now) (state_with c.args.self.now.run c.args.targets.now none_yet))) (sym c.in-Some.ensures.value) ∙ asks.1))
    c.advance-moved.ensures.calls

pub returns-in-Err-clause-calls : goal.returns-in-Err-clause-calls
returns-in-Err-clause-calls g c =
    called_for g.L.Lines.reads_on _ _ c.args.lines.now c.advance-moved.new.lines
    (λ l asks. (asks.0, ap (λ doing. wants_line (pending_from c.args.units.now (scope_of c.args.self.now.scope) doing (waiting c.args.self.now) (state_with c.args.self.now.run c.args.targets.now none_yet))) (sym c.in-Some.ensures.value) ∙ asks.1))
    c.advance-moved.ensures.calls
