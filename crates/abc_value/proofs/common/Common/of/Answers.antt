use Rattle.std.proofs.Common.{◌∙◌}
use Rattle.abc_value.proofs.kept_forms.Keeping.{one_kept}
use Rattle.abc_value.proofs.common.Common.of.Goals as goal

pub returns : goal.returns
returns c = one_kept _ c.args.v.now (c.in_ok-shape.ensures ∙ c.in_ok-of.ensures)
