use Rattle.abc_fewer.proofs.Cuts.{fewer_lines}
use Rattle.abc_check.proofs.laws.fewer_lines_stay_typable.Goals as goal

pub returns : goal.returns
returns c = fewer_lines
