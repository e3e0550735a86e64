use Rattle.abc_print.proofs.Displays.{displays_read_back}
use Rattle.abc_print.proofs.Computing.{line_is}
use Rattle.abc_print.proofs.OneValue.{spells_once}
use Rattle.abc_print.proofs.laws.displays_read_back.Goals as goal

pub returns-clause-back : goal.returns-clause-back
returns-clause-back c = displays_read_back c.one_reading.ensures

pub returns-clause-only : goal.returns-clause-only
returns-clause-only c = spells_once

pub returns-clause-computed : goal.returns-clause-computed
returns-clause-computed c = line_is c.computed_tokens.ensures.tokens
