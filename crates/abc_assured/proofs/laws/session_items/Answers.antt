use Rattle.abc_assured.proofs.Premises.{premises_met}
use Rattle.abc_assured.proofs.laws.session_items.Goals as goal

pub returns : goal.returns
returns c = premises_met
