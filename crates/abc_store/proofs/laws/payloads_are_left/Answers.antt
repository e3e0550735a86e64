use Rattle.abc_store.proofs.Leaving.{payloads_are_left}
use Rattle.abc_store.proofs.laws.payloads_are_left.Goals as goal

pub returns : goal.returns
returns c = payloads_are_left
