use Rattle.std.proofs.Common.{◌≡◌, ◌≤◌, length, map, sym, subst, ap, ◌∙◌, arith, rules}
use Rattle.std.specs.Prelude.{slice_get, Some, None}
use Rattle.std.proofs.lemmas.Result.{err_from_is_err_and}
use Rattle.abc_tree.specs.declared.formulas.Bound.{the_lemmas as bounds}
use Rattle.abc_value.specs.Parts.{parts_of}
use Rattle.abc_meaning.specs.Bindings.{bindings, at_compound}
use Rattle.abc_acts.specs.inner.Binding.{Adds, bindings_all}
use Rattle.abc_acts.proofs.Parts.{several_bound}
use Rattle.abc_acts.proofs.Adding.{field_missing, field_halts, field_added, fields_added, field_behind}
use Rattle.abc_acts.proofs.binding.+bindings.Goals as goal

pub add_bindings-returns-in-Compound : goal.add_bindings-returns-in-Compound
add_bindings-returns-in-Compound t c =
    let v = c.args.value.now in
    let bound : bindings c.args.bound.now v ≡ at_compound (map bindings c.in-Several.parts) v = search (rules, bounds, c.in-Several.is) in
    subst (λ o. Adds c.add_fields.result o c.args.found.now.items c.add_fields.new.found.items)
    (ap (λ ps. bindings_all ps (parts_of v)) c.as_slice.ensures ∙ sym (several_bound c.in-Several.parts v (sym c.kind.ensures ∙ c.in-Compound.is)) ∙ sym bound) c.add_fields.ensures

pub add_fields-returns-in_default : goal.add_fields-returns-in_default
add_fields-returns-in_default t c =
    field_missing c.args.parts.now (parts_of c.args.compound.now) c.loop-place.place c.index-parts-place.result c.args.found.now.items c.loop-place.found.items _ c.loop-place-test.true c.index-parts-place.is c.loop-place.invariant (sym c.in_default.ensures)

pub add_fields-returns-in_err-add_bindings : goal.add_fields-returns-in_err-add_bindings
add_fields-returns-in_err-add_bindings t c =
    let p = err_from_is_err_and c.from_residual.result c.from_residual.ensures.1 in
    rw (p.1, p.2) (field_halts c.args.parts.now (parts_of c.args.compound.now) c.loop-place.place c.index-parts-place.result c.args.found.now.items c.loop-place.found.items _ c.loop-place-test.true c.index-parts-place.is c.loop-place.invariant
    c.in-Some.field.now c.in_err-add_bindings.field-0.0 c.add_bindings.new.found.items (sym c.in-Some.ensures) c.in_err-add_bindings.ensures)

pub add_fields-loop-place-preserved : goal.add_fields-loop-place-preserved
add_fields-loop-place-preserved t c =
    field_added c.args.parts.now (parts_of c.args.compound.now) c.loop-place.place c.index-parts-place.result c.args.found.now.items c.loop-place.found.items _ c.loop-place-test.true c.index-parts-place.is c.loop-place.invariant
    c.in-Some.field.now c.add_bindings.new.found.items (sym c.in-Some.ensures) c.in_ok-add_bindings.ensures

pub add_fields-returns-in-None : goal.add_fields-returns-in-None
add_fields-returns-in-None t c =
    let vs = parts_of c.args.compound.now in
    let e : length c.args.parts.now ≡ c.loop-place.place = omega arith in
    let l : length c.args.parts.now ≤ c.loop-place.place = omega arith in
    fields_added c.args.parts.now vs c.loop-place.place c.args.found.now.items c.loop-place.found.items _ l c.loop-place.invariant (subst (λ m. slice_get vs m ≡ None) e (sym c.in-None.ensures))

pub add_fields-returns-in-Some-part : goal.add_fields-returns-in-Some-part
add_fields-returns-in-Some-part t c =
    let vs = parts_of c.args.compound.now in
    let e : length c.args.parts.now ≡ c.loop-place.place = omega arith in
    let l : length c.args.parts.now ≤ c.loop-place.place = omega arith in
    field_behind c.args.parts.now vs c.loop-place.place c.args.found.now.items c.loop-place.found.items _ l c.loop-place.invariant c.in-Some-part.field-0.now
    (subst (λ m. slice_get vs m ≡ Some c.in-Some-part.field-0.now) e (sym c.in-Some-part.ensures))
