use Rattle.abc_expressions.proofs.Spelled.{one_place}
use Rattle.abc_expressions.proofs.laws.one_address.Goals as goal

pub returns : goal.returns
returns c own d ts a b p q = one_place c.one_reading.ensures own d ts a b p q
