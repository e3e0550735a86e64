use Rattle.std.proofs.Common.{◌≡◌, ◌∷◌, None, Some, refl, sym, ap, ◌∙◌, arith}
use Rattle.abc_value.specs.Forms.{joined, form_of}
use Rattle.abc_value.specs.inner.Keeps.{kept_form}
use Rattle.abc_value.proofs.kept_forms.Keeping.{more_kept}
use Rattle.abc_value.proofs.kept_forms.KeptShapes.{there, absent}
use Rattle.abc_value.proofs.kept_forms.KeepingSteps.{some_values, none_more, joined_none, none_joined, counted_more}
use Rattle.abc_value.proofs.common.Common.with.Goals as goal

pub returns-in_default : goal.returns-in_default
returns-in_default c = λ ts count k.
    let v = c.args.v.now in
    let none : None ≡ joined (kept_form c.args.self.now) (form_of v) = sym (joined_none (form_of v)) ∙ ap (λ o. joined o (form_of v)) (sym (absent c.args.self.now c.in_default.is)) in
    c.new.ensures.shape (v ∷ ts) (none_more (kept_form c.args.self.now) (form_of v) c.args.self.now.whole v ts (some_values ts c.args.others count c.if-others-eq0.false) k refl none)

pub returns-in_default-2 : goal.returns-in_default-2
returns-in_default-2 c = λ ts count k.
    let v = c.args.v.now in
    let is : None ≡ form_of v = sym c.in_default-2.is ∙ c.in_ok-one.ensures in
    c.new-in_default-2.ensures.shape (v ∷ ts) (none_more (kept_form c.args.self.now) None c.args.self.now.whole v ts (some_values ts c.args.others count c.if-others-eq0.false) k is (sym (none_joined (kept_form c.args.self.now))))

pub returns-in_default-3 : goal.returns-in_default-3
returns-in_default-3 c = λ ts count k.
    let v = c.args.v.now in
    let one = c.in-Some-2.one in
    let is : Some one ≡ form_of v = sym c.in-Some-2.is ∙ c.in_ok-one.ensures in
    let all : Some c.deref.result.now ≡ kept_form c.args.self.now = ap Some c.deref.ensures ∙ sym (there c.args.self.now c.in-Some.all c.in-Some.is) in
    let none : None ≡ joined (kept_form c.args.self.now) (Some one) = sym c.in_default-3.is ∙ c.in_ok-shape.ensures ∙ ap (λ o. joined o (Some one)) all in
    c.new-in_default-3.ensures.shape (v ∷ ts) (none_more (kept_form c.args.self.now) (Some one) c.args.self.now.whole v ts (some_values ts c.args.others count c.if-others-eq0.false) k is none)

pub returns : goal.returns
returns c = λ ts count k.
    let v = c.args.v.now in
    let one = c.in-Some-2.one in
    let shape = c.in_ok-new.field-0.value in
    let is : Some one ≡ form_of v = sym c.in-Some-2.is ∙ c.in_ok-one.ensures in
    let all : Some c.deref.result.now ≡ kept_form c.args.self.now = ap Some c.deref.ensures ∙ sym (there c.args.self.now c.in-Some.all c.in-Some.is) in
    let now : shape ≡ c.in-Some-3.shape = c.in_ok-new.ensures.ok in
    let found : Some shape ≡ joined (kept_form c.args.self.now) (Some one) = ap Some now ∙ sym c.in-Some-3.is ∙ c.in_ok-shape.ensures ∙ ap (λ o. joined o (Some one)) all in
    let again : kept_form c.args.self.now ≡ Some c.deref-2.result.now = there c.args.self.now c.in-Some.all c.in-Some.is ∙ ap Some (sym c.deref-2.ensures) in
    more_kept (Some shape) (kept_form c.args.self.now) (Some one) c.args.self.now.whole c.saturating_add-whole.result v ts (some_values ts c.args.others count c.if-others-eq0.false) k is found
    (counted_more (kept_form c.args.self.now) c.deref-2.result.now one c.in-Some-3.shape shape c.is.result c.is-2.result c.counted-known.result c.counted.result c.args.self.now.whole c.saturating_add-whole.result
    again now c.is.ensures c.counted-known.ensures c.is-2.ensures c.counted.ensures (omega (arith, c.saturating_add-whole.ensures)))
