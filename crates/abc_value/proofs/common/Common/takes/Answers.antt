use Rattle.std.proofs.Common.{Some, sym, ap, ◌∙◌}
use Rattle.abc_value.specs.Forms.{form_of}
use Rattle.abc_value.specs.inner.Keeps.{kept_form}
use Rattle.abc_value.proofs.kept_forms.KeptShapes.{there}
use Rattle.abc_value.proofs.kept_forms.KeepingSteps.{within}
use Rattle.abc_value.proofs.common.Common.takes.Goals as goal

pub returns-in-Some-3 : goal.returns-in-Some-3
returns-in-Some-3 c =
    within (kept_form c.args.self.now) (form_of c.args.v.now) c.deref.result.now c.in-Some-2.one c.in-Some-3.shape c.is.result
    (there c.args.self.now c.in-Some.all c.in-Some.is ∙ ap Some (sym c.deref.ensures)) (sym c.in_ok-one.ensures ∙ c.in-Some-2.is) (sym c.in-Some-3.is ∙ c.in_ok-shape.ensures) c.is.ensures
