use Rattle.std.proofs.Common.{ap}
use Rattle.abc_tokens.specs.Shape.{shape_by, is_first_by}
use Rattle.abc_tokens.proofs.ShapeLaws.{loose_by}
use Rattle.abc_tokens.proofs.laws.shape_by_tokens.Goals as goal

pub returns-clause-shape : goal.returns-clause-shape
returns-clause-shape c line ts are = ap (shape_by line) (loose_by line ts are)

pub returns-clause-first : goal.returns-clause-first
returns-clause-first c line word ts are = ap (λ us. is_first_by line us word) (loose_by line ts are)
