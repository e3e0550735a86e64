use Rattle.abc_inquiry.proofs.Dropping.{are_gone}
use Rattle.abc_inquiry.proofs.laws.dropped_units_are_gone.Goals as goal

pub returns : goal.returns
returns c = are_gone
