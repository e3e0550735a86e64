use Rattle.abc_layout.proofs.Whole.{whole_stays}
use Rattle.abc_layout.proofs.laws.whole_stays.Goals as goal

pub returns : goal.returns
returns c = whole_stays
