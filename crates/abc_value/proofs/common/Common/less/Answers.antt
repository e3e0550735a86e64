use Rattle.std.proofs.Common.{Some, sym, ap, ◌∙◌, arith}
use Rattle.abc_value.specs.inner.Keeps.{kept_form}
use Rattle.abc_value.proofs.kept_forms.KeptShapes.{there}
use Rattle.abc_value.proofs.kept_forms.KeepingSteps.{less_kept}
use Rattle.abc_value.proofs.common.Common.less.Goals as goal

pub returns : goal.returns
returns c = λ ts i inside at k.
    let same = c.in_ok-clone.ensures.cases in
    less_kept (kept_form c.args.self.now) c.in_ok-clone.field-0.value c.deref.result.now c.in_ok-is_of.field-0 c.counted.result c.args.self.now.whole c.saturating_sub-whole.result ts i c.args.gone.now
    (there c.args.self.now c.in-Some.all c.in-Some.is ∙ ap Some (sym same)) (c.deref.ensures ∙ sym same) c.in_ok-is_of.ensures c.counted.ensures
    (omega (arith, c.saturating_sub-whole.ensures, c.if-whole-eq0.false)) (omega (arith, c.if-whole-eq0.false)) inside at k
