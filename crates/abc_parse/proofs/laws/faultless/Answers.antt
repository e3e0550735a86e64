use Rattle.abc_parse.proofs.spelling.Whole.{faultless}
use Rattle.abc_parse.proofs.laws.faultless.Goals as goal

pub returns : goal.returns
returns c = faultless
