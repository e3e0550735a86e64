use Rattle.abc_assured.proofs.Reached.{all_reached}
use Rattle.abc_assured.proofs.laws.none_missing.Goals as goal

pub returns : goal.returns
returns c = all_reached
