use Rattle.abc_parse.proofs.computing.Computed.{computed_item}
use Rattle.abc_parse.proofs.laws.computed_item.Goals as goal

pub returns : goal.returns
returns c = computed_item
