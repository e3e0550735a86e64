use Rattle.abc_layout.proofs.Fronts.{text_behind}
use Rattle.abc_layout.proofs.splitter.text_of.Goals as goal

pub returns : goal.returns
returns c = text_behind c.args.line.now c.front_of.result c.front_of.ensures.count
