use Rattle.abc_session.proofs.Exact.{exact_checks_tell}
use Rattle.abc_session.proofs.laws.exact_checks_tell.Goals as goal

pub returns : goal.returns
returns c = exact_checks_tell
