use Rattle.std.proofs.Common.{sym, ap, ◌∙◌}
use Rattle.abc_value.specs.Forms.{form_of}
use Rattle.abc_meaning.specs.Fits.{agree}
use Rattle.abc_state.proofs.Forming.{agree_none}
use Rattle.abc_state.proofs.reading.has_shape.Goals as goal

pub returns-in_default : goal.returns-in_default
returns-in_default c = sym (ap (agree (form_of c.args.value.now)) c.in_default.is ∙ agree_none (form_of c.args.value.now))
