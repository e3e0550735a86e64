use Rattle.abc_make.proofs.LastLine.{last_line}
use Rattle.abc_make.proofs.laws.last_line_is_found.Goals as goal

pub returns : goal.returns
returns c = last_line
