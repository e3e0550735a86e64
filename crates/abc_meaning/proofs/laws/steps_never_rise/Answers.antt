use Rattle.abc_meaning.proofs.Kept.{steps_never_rise}
use Rattle.abc_meaning.proofs.laws.steps_never_rise.Goals as goal

pub returns : goal.returns
returns c = steps_never_rise
