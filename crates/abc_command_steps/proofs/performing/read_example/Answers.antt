-- Answers for read_example.
use Rattle.std.proofs.Common.{◌∙◌}
use Rattle.abc_meaning.specs.Meaning.{meaning}
use Rattle.abc_state.specs.Words.{with_lines}
use Rattle.abc_state.specs.Views.{at as standing_at}
use Rattle.abc_command_steps.proofs.performing.read_example.Goals as goal
use Rattle.abc_meaning.specs.Reading.{literal_value}
use Rattle.abc_meaning.specs.Fits.{example_form}
use Rattle.abc_command_steps.proofs.Reading.{read_on, read_not}

-- the line spells a value
pub returns-in-Ok-literal_value-clause-leads : goal.returns-in-Ok-literal_value-clause-leads
returns-in-Ok-literal_value-clause-leads g c units scope s input may =
    let here = standing_at scope c.args.place.line in
    let new = with_lines (g.L.Lines.unread input c.take_line.new.lines) s in
    read_on (meaning units c.args.place.levels) here c.args.address.now (literal_value here (example_form c.args.example.now)) _ c.in-Ok.line new c.in-Ok-literal_value.value (c.in-Ok.ensures.agrees input may here s) (c.in-Ok-literal_value.ensures (c.in-Ok.ensures.short input may) here new)
    ∙ c.change_to.ensures.leads units scope new

-- or it spells none
pub returns-clause-leads : goal.returns-clause-leads
returns-clause-leads g c units scope s input may =
    let here = standing_at scope c.args.place.line in
    let new = with_lines (g.L.Lines.unread input c.take_line.new.lines) s in
    read_not (meaning units c.args.place.levels) here c.args.address.now (literal_value here (example_form c.args.example.now)) _ c.in-Ok.line new c.args.place.line c.in-Err-literal_value.halt (c.in-Ok.ensures.agrees input may here s) (c.in-Err-literal_value.ensures (c.in-Ok.ensures.short input may) here new)
