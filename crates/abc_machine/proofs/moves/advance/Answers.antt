use Rattle.std.proofs.Common.{map, ap, ◌∙◌}
use Rattle.abc_outside.specs.Lines.{none_yet}
use Rattle.abc_outside.proofs.Called.{called_for}
use Rattle.abc_meaning.specs.Laws.{wants_line}
use Rattle.abc_state.specs.Views.{scope_of}
use Rattle.abc_pending.specs.Leads.{leads}
use Rattle.abc_pending.specs.Steps.{state_with}
use Rattle.abc_pending.specs.Views.{frame_of}
use Rattle.abc_machine.specs.Pending.{given}
use Rattle.abc_machine.proofs.moves.advance.Goals as goal

pub returns-in-Item-clause-calls : goal.returns-in-Item-clause-calls
returns-in-Item-clause-calls g c =
    let scope = scope_of c.args.scope.now in
    let state = state_with c.args.run.now c.args.targets.now none_yet in
    called_for g.L.Lines.reads_on _ _ c.args.lines.now c.begin_command.new.lines
    (λ l asks. (asks.0, ap (λ d. wants_line (leads c.args.units.now scope (map frame_of c.args.frames.now) (given c.args.units.now scope d state))) c.in-Item.is ∙ asks.1 c.args.units.now c.args.targets.now))
    c.begin_command.ensures.calls

pub returns-in-Work-clause-calls : goal.returns-in-Work-clause-calls
returns-in-Work-clause-calls g c =
    let scope = scope_of c.args.scope.now in
    let state = state_with c.args.run.now c.args.targets.now none_yet in
    called_for g.L.Lines.reads_on _ _ c.args.lines.now c.work_on.new.lines
    (λ l asks. (asks.0, ap (λ d. wants_line (leads c.args.units.now scope (map frame_of c.args.frames.now) (given c.args.units.now scope d state))) c.in-Work.is ∙ asks.1))
    c.work_on.ensures.calls
