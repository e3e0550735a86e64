use Rattle.abc_tree.proofs.OneTemplate.{one_template}
use Rattle.abc_tree.proofs.laws.one_template.Goals as goal

pub returns : goal.returns
returns c = one_template
