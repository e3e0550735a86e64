use Rattle.std.proofs.Common.{◌∙◌}
use Rattle.abc_value.proofs.lists.Alike.{many_kept}
use Rattle.abc_value.proofs.common.Common.of_many.Goals as goal

pub returns : goal.returns
returns c = λ ts count a. many_kept _ _ _ ts (c.in_ok-shape.ensures ∙ c.in_ok-of.ensures) count a
