use Rattle.abc_inquiry.proofs.Spelled.{spelled}
use Rattle.abc_inquiry.proofs.laws.asked_can_be_spelled.Goals as goal

pub returns : goal.returns
returns c = spelled
