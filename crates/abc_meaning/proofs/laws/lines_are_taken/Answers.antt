use Rattle.abc_meaning.proofs.Kept.{lines_are_taken}
use Rattle.abc_meaning.proofs.laws.lines_are_taken.Goals as goal

pub returns : goal.returns
returns c = lines_are_taken
