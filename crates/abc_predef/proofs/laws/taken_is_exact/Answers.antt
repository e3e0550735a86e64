use Rattle.abc_predef.proofs.Deciding.{exact}
use Rattle.abc_predef.proofs.laws.taken_is_exact.Goals as goal

pub returns : goal.returns
returns c = exact
