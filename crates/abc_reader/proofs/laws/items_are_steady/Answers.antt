use Rattle.abc_reader.proofs.Steady.{steady}
use Rattle.abc_reader.proofs.laws.items_are_steady.Goals as goal

pub returns : goal.returns
returns g c = steady
