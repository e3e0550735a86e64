use Rattle.std.proofs.Common.{refl, sym, subst}
use Rattle.std.specs.List.{remove}
use Rattle.abc_value.specs.declared.value.Entry.{Entry}
use Rattle.abc_value.specs.declared.table_shapes.TableShapes.{TableShapes}
use Rattle.abc_value.specs.inner.Keeps.{KeepsBoth, kept_form}
use Rattle.abc_value.proofs.kept_forms.KeepingSteps.{column_removed}
use Rattle.abc_value.proofs.table_shapes.TableShapes.without.Goals as goal

pub returns : goal.returns
returns c = λ k.
    let es = c.args.entries.now in
    let i = c.args.place in
    let fs = remove es i in
    let P : TableShapes → Type 0 = λ s. KeepsBoth s fs in
    subst P (sym c.in_ok-new.ensures.ok) (
      column_removed (λ (e : Entry). e.key) (kept_form c.in_ok-keys.keys) c.in_ok-keys.keys.whole es fs i refl (c.in_ok-keys.ensures k.0),
      column_removed (λ (e : Entry). e.associate) (kept_form c.in_ok-associates.associates) c.in_ok-associates.associates.whole es fs i refl (c.in_ok-associates.ensures k.1),
    )
