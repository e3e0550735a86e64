use Rattle.abc_state.proofs.Lines.{short_first}
use Rattle.abc_state.proofs.reading.take_line.Goals as goal

pub returns-in-Ok-Some-clause-short : goal.returns-in-Ok-Some-clause-short
returns-in-Ok-Some-clause-short g c = λ input may. short_first _ _ c.in-Ok-Some.line (rw c.in-Ok-Some.field-0-is at (c.in-Ok-Some.ensures.line input may))
