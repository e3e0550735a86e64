use Rattle.std.proofs.Common.{arith}
use Rattle.abc_value.proofs.trees.Making.{text_too_long}
use Rattle.abc_value.proofs.value.Value.text.Goals as goal

pub returns-then-b-gt-MOST_ELEMENTS-clause-sizes : goal.returns-then-b-gt-MOST_ELEMENTS-clause-sizes
returns-then-b-gt-MOST_ELEMENTS-clause-sizes c = λ _. text_too_long c.args.b.now (omega arith)
