use Rattle.std.proofs.Common.{◌≡◌, length, ap, ◌∙◌, subst, arith, IfOk, Option}
use Rattle.std.proofs.lemmas.Bool.Decides.{nat_tests}
use Rattle.std.specs.Option.{option_map}
use Rattle.abc_value.specs.Tree.{list, trees}
use Rattle.abc_value.specs.Forms.{Form, a_list, form_of}
use Rattle.abc_value.specs.inner.Keeps.{kept_form}
use Rattle.abc_value.proofs.kept_forms.KeptShapes.{list_kept}
use Rattle.abc_value.proofs.elements.Elements.shape.Goals as goal

pub returns : goal.returns
returns c =
    let some : length c.self.inside.items ≡ 0 → ⊥ = (λ h. let e = c.is_empty.ensures in let f = c.if-is_empty.false in grind (arith, nat_tests)) in
    let is : option_map a_list c.in_ok-shape.field-0 ≡ form_of (list (trees c.args.self.now)) =
    ap (option_map a_list) c.in_ok-shape.ensures ∙ list_kept (kept_form c.self.inside.common) c.self.inside.common.whole c.self.inside.items c.args.self.now c.self.view_is some c.self.invariant in
    subst (λ (told : Option Form). IfOk c.list_shape.result (λ found. found ≡ told)) is c.list_shape.ensures
