use Rattle.abc_parse.proofs.spelling.Whole.{one_item}
use Rattle.abc_parse.proofs.laws.one_item.Goals as goal

pub returns : goal.returns
returns c = one_item
