use Rattle.abc_meaning.proofs.Rising.{names_stay_in_order}
use Rattle.abc_meaning.proofs.laws.names_stay_in_order.Goals as goal

pub returns : goal.returns
returns c = names_stay_in_order
