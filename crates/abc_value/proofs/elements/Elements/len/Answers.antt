use Rattle.std.proofs.Common.{length, ap, ◌∙◌}
use Rattle.abc_value.proofs.elements.Elements.len.Goals as goal

pub returns : goal.returns
returns c = c.len.ensures ∙ ap length c.self.view_is
