use Rattle.std.proofs.Common.{◌∙◌}
use Rattle.abc_expressions.proofs.SplitSteps.{finds_all, flush_all}
use Rattle.abc_expressions.proofs.texts.split.Goals as goal

pub returns-in-End : goal.returns-in-End
returns-in-End c = finds_all _ _ _ _ c.parts.invariant.0 (rw c.in-End.is at c.in_ok-first_of.ensures) (c.from_vec.ensures ∙ c.in_ok-flushed-in-End.ensures ∙ flush_all _ _)
