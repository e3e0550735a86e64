use Rattle.abc_tokens.proofs.ShapeLaws.{has_shape, one_shape}
use Rattle.abc_tokens.proofs.laws.one_shape.Goals as goal

pub returns-clause-there : goal.returns-clause-there
returns-clause-there c = has_shape

pub returns-clause-only : goal.returns-clause-only
returns-clause-only c = one_shape
