use Rattle.std.proofs.Common.{sym, ap, ◌∙◌, slice_get}
use Rattle.abc_value.specs.ShapeParts.{shape_parts}
use Rattle.abc_value.specs.ShapeView.{node_form}
use Rattle.abc_value.proofs.forms.ShapeLooks.{listed_forms_forms}
use Rattle.abc_value.proofs.shape.Shape.part.Goals as goal

pub returns-in-Compound : goal.returns-in-Compound
returns-in-Compound c =
    c.nth_shape.ensures ∙ ap (λ ss. slice_get ss c.args.i) (c.deref.ensures.value ∙ sym (listed_forms_forms c.in-Compound.fields.items))
    ∙ ap (λ n. slice_get (shape_parts (node_form n)) c.args.i) (sym c.in-Compound.is) ∙ ap (λ s. slice_get (shape_parts s) c.args.i) c.self.view_is
