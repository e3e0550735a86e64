use Rattle.abc_expressions.proofs.Conversions.{read_from_front, read_is_first}
use Rattle.abc_expressions.proofs.laws.conversion_end.Goals as goal

pub returns : goal.returns
returns c bytes inner rest = (read_from_front c.one_reading.ensures bytes inner rest, read_is_first c.one_reading.ensures bytes inner rest)
