use Rattle.abc_meaning.proofs.Kept.{output_grows}
use Rattle.abc_meaning.proofs.laws.output_grows.Goals as goal

pub returns : goal.returns
returns c = output_grows
