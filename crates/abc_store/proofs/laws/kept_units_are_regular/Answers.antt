use Rattle.abc_store.proofs.Spelled.{units_read}
use Rattle.abc_store.proofs.laws.kept_units_are_regular.Goals as goal

pub returns : goal.returns
returns c unit kept = units_read c.regular_items.ensures c.numbered_items.ensures unit kept
