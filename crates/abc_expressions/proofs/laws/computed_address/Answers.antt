use Rattle.abc_expressions.proofs.Spelled.{is_address_of}
use Rattle.abc_expressions.proofs.laws.computed_address.Goals as goal

pub returns : goal.returns
returns c own ts a = is_address_of c.one_reading.ensures own ts a
